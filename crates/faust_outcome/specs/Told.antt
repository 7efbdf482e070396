-- What a live run that is told of has shown. The promise of `live` rests on this file.
use Rattle.std.specs.Prelude.{◌≡◌, ◌⊎◌, ℕ, suc, List, [], ◌∷◌, Bool, true, false, length, Ok}
use Rattle.faust_types.specs.declared.operation.Kind.TheVariants.{Read, Write}
use Rattle.faust_types.specs.declared.operation.Operation.{Operation}
use Rattle.faust_record.specs.Runs.{IsRun, Run}
use Rattle.faust_record.specs.declared.entry.Entry.{Entry}
use Rattle.faust_node.specs.declared.receipt.Receipt.{Receipt}
use Rattle.faust_receipts.specs.Lines.{has_stopped}
use Rattle.faust_receipts.specs.Receipts.{AreAllCompletions}
use Rattle.faust_verdict.specs.Headline.{IsHeadline}
use Rattle.faust_outcome.specs.declared.gathered.Gathered.{Gathered}
use Rattle.faust_outcome.specs.declared.words.LiveCommand.{LiveCommand}
use Rattle.faust_outcome.specs.Outcomes.{IsMerged, told_text}
use Rattle.faust_outcome.specs.UserLists.{is_write_turn, next_client}

-- The operation at a place of the list of client i's user, of n clients: a write of its client's register, or a read of
-- the next client's.
abbrev pub IsTurn : ℕ → ℕ → Bool → Operation → Type 0
IsTurn n i true op = (op.kind ≡ Write) × (op.register ≡ i)
IsTurn n i false op = (op.kind ≡ Read) × (op.register ≡ next_client n i)

-- It is client i's, and the one at this place.
pub record IsMade (n i place : ℕ) (op : Operation) : Type 0 where
  pub of_client : op.name.client ≡ i
  pub of_turn : IsTurn n i (is_write_turn place) op

-- Receipts are of these operations, from a place on; and those of all users, from client i's on.
abbrev pub AreMade : ℕ → ℕ → ℕ → List Receipt → Type 0
AreMade n i place [] = Unit {0}
AreMade n i place (receipt ∷ rest) = IsMade n i place receipt.answer.op × AreMade n i (suc place) rest

abbrev pub AreAllMade : ℕ → ℕ → List (List Receipt) → Type 0
AreAllMade n i [] = Unit {0}
AreAllMade n i (receipts ∷ rest) = AreMade n i 0 receipts × AreAllMade n (suc i) rest

-- Each user, from client i's on, has as many receipts as it was to have, unless its client stopped: that has a notice,
-- or as many entries as a journal may have.
abbrev pub AreComplete : List Entry → ℕ → ℕ → List (List Receipt) → Type 0
AreComplete entries ops i [] = Unit {0}
AreComplete entries ops i (receipts ∷ rest) =
    ((length receipts ≡ ops) ⊎ (has_stopped entries i ≡ true)) × AreComplete entries ops (suc i) rest

-- A live run that was told of: what was gathered is a run, of which the headline holds and the text tells; and each
-- receipt is the completion of the operation that its user began at that place, which is the one of its list.
pub record IsWell (command : LiveCommand) (it : Gathered) (text : List ℕ) : Type 0 where
  pub run : Run
  pub merged_is : IsMerged command it (Ok run)
  pub is_run : IsRun run.config run.entries
  pub headline : IsHeadline run
  pub text_is : text ≡ told_text command it.receipts run
  pub completions : AreAllCompletions run.entries 1 it.receipts
  pub made : AreAllMade command.clients 1 it.receipts
  pub complete : AreComplete run.entries command.ops 1 it.receipts
