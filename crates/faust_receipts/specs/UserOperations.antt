-- The operations that users began, and when each completed. The promises of `differs` and `short` rest on this file.
use Rattle.std.specs.Prelude.{ℕ, suc, cond, List, [], ◌∷◌, Option, option_map, option_and_then, slice_get}
use Rattle.faust_types.specs.declared.operation.OpName.{OpName}
use Rattle.faust_record.specs.Operations.{Finished, Started, completion_named, started_among}
use Rattle.faust_record.specs.Runs.{entries_of}
use Rattle.faust_record.specs.declared.entry.Entry.{Entry}

-- Of a client's operations, numbered from t on, the numbers of those that its user began, and not a tick.
abbrev pub user_numbers : ℕ → List Started → List ℕ
user_numbers t [] = []
user_numbers t (started ∷ rest) = cond started.order.dummy (user_numbers (suc t) rest) (t ∷ user_numbers (suc t) rest)

-- The name of the operation that client i's user began at place u, counted from 0, if it began so many.
abbrev pub name_by : ℕ → ℕ → OpName
name_by i t = record { client = i; t = t }

abbrev pub user_operation : List Entry → ℕ → ℕ → Option OpName
user_operation entries i u = option_map (name_by i) (slice_get (user_numbers 1 (started_among (entries_of i entries))) u)

-- Its completion, if it completed.
unfoldable pub user_completion : List Entry → ℕ → ℕ → Option Finished
user_completion entries i u = option_and_then (completion_named entries) (user_operation entries i u)
