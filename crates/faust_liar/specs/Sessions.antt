-- What the liar keeps of a client, in messages: its promises say what becomes of this, wherever the messages lie.
use Rattle.std.specs.Prelude.{◌≡◌, ℕ, List, Option, Some, IsNone, IsSome, Result, Ok, Err}
use Rattle.faust_types.specs.declared.message.Message.{Message}
use Rattle.faust_liar.specs.declared.error.LiarError.{LiarError}
use Rattle.faust_liar.specs.declared.error.LiarError.TheVariants as errors

-- The branch by which its messages are handled, the messages that arrived, the replies that were put into its queue,
-- and how many of these were taken out.
pub record SessionState : Type 0 where
  pub route : ℕ
  pub arrived : List Message
  pub replies : List Message
  pub taken : ℕ

-- An answer is the bytes that are due; where none are due there is nothing, and memory runs out only where some are.
abbrev pub Repeats : Result (List ℕ) LiarError → Option (List ℕ) → Type 0
Repeats (Ok bytes) due = due ≡ Some bytes
Repeats (Err errors.Nothing) due = IsNone due
Repeats (Err errors.NoBranch) due = ⊥
Repeats (Err errors.Field) due = ⊥
Repeats (Err errors.OutOfMemory) due = IsSome due
