-- What the code keeps of the operations that completed: for each client their numbers, in ascending order. This file
-- helps proofs.
use Rattle.std.specs.Prelude.{◌≡◌, ◌-◌, ◌==◌, ℕ, cond, Bool, List, [], length, Option, Some, None, is_some, slice_index_or, slice_set}
use Rattle.std.specs.List.{list_any}
use Rattle.std.specs.Ordering.{nat_cmp}
use Rattle.std.specs.BTreeMap.{is_at}
use Rattle.std.specs.BTreeSet.{insert_key}
use Rattle.faust_types.specs.Clients.{IsClient}
use Rattle.faust_types.specs.declared.operation.Answer.{Answer}
use Rattle.faust_types.specs.declared.operation.OpName.{OpName}
use Rattle.faust_record.specs.Operations.{completion_named}
use Rattle.faust_record.specs.declared.entry.Entry.{Entry}

-- Whether a number is among the numbers, and the numbers with one more.
abbrev pub has_number : List ℕ → ℕ → Bool
has_number numbers t = list_any (is_at (nat_cmp t)) numbers

abbrev pub with_number : List ℕ → ℕ → List ℕ
with_number numbers t = insert_key nat_cmp numbers t

-- The numbers of client i.
abbrev pub numbers_at : List (List ℕ) → ℕ → List ℕ
numbers_at numbers i = slice_index_or numbers (i - 1) []

abbrev pub has_name : List (List ℕ) → OpName → Bool
has_name numbers name = has_number (numbers_at numbers name.client) name.t

-- Client i was given an answer, if any. It completes an operation of its own.
abbrev pub completed_as : List (List ℕ) → ℕ → OpName → List (List ℕ)
completed_as numbers i name =
    cond (name.client == i) (slice_set numbers (i - 1) (with_number (numbers_at numbers i) name.t)) numbers

abbrev pub completed_with : List (List ℕ) → ℕ → Option Answer → List (List ℕ)
completed_with numbers i None = numbers
completed_with numbers i (Some answer) = completed_as numbers i answer.op.name

-- These are the numbers of the operations of n clients that completed in entries.
pub record AreCompleted (n : ℕ) (entries : List Entry) (numbers : List (List ℕ)) : Type 0 where
  pub counted : length numbers ≡ n
  pub each : (i : ℕ) → IsClient n i → (t : ℕ)
      → has_number (numbers_at numbers i) t ≡ is_some (completion_named entries (record { client = i; t = t }))
