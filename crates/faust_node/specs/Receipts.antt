-- What a user gets for an operation: its answer as the journal has it, with the number of the entry that gave it. The
-- promise on receipts rests on it.
use Rattle.std.specs.Prelude.{◌≡◌, ◌<◌, ◌≤◌, ℕ, List, Option, Some, None, slice_get}
use Rattle.faust_types.specs.declared.operation.Answer.{Answer}
use Rattle.faust_types.specs.declared.operation.Operation.{Operation}
use Rattle.faust_record.specs.declared.entry.Entry.{Entry}
use Rattle.faust_node.specs.Answers.{IsUserAnswer}
use Rattle.faust_node.specs.declared.receipt.Receipt.{Receipt}

-- An answer to this operation, as a user may get it.
pub record IsAnswerTo (op : Operation) (answer : Answer) : Type 0 where
  pub same_op : answer.op ≡ op
  pub for_user : IsUserAnswer answer

-- A receipt of this operation by a journal's entries: one of them gave this answer, and has this number.
pub record IsReceiptOf (entries : List Entry) (op : Operation) (receipt : Receipt) : Type 0 where
  pub place : ℕ
  pub entry : Entry
  pub stands : slice_get entries place ≡ Some entry
  pub number_is : receipt.number ≡ entry.number
  pub answer_is : entry.outcome.answer ≡ Some receipt.answer
  pub same_op : receipt.answer.op ≡ op

-- No entry from this place on answers this operation.
abbrev pub IsUnanswered : List Entry → ℕ → Operation → Type 0
IsUnanswered entries from op =
    (place : ℕ) (entry : Entry) (answer : Answer) → from ≤ place → slice_get entries place ≡ Some entry
    → entry.outcome.answer ≡ Some answer → IsAnswerTo op answer → ⊥

-- The same of the entries before another place.
abbrev pub IsUnansweredUpTo : List Entry → ℕ → ℕ → Operation → Type 0
IsUnansweredUpTo entries from end op =
    (place : ℕ) (entry : Entry) (answer : Answer) → from ≤ place → place < end → slice_get entries place ≡ Some entry
    → entry.outcome.answer ≡ Some answer → IsAnswerTo op answer → ⊥

abbrev pub FindsReceipt : List Entry → ℕ → Operation → Option Receipt → Type 0
FindsReceipt entries from op None = IsUnanswered entries from op
FindsReceipt entries from op (Some receipt) = IsReceiptOf entries op receipt

-- The receipt that one entry gives of this operation, if it answers it.
pub record IsGiven (entry : Entry) (receipt : Receipt) (op : Operation) : Type 0 where
  pub number_is : receipt.number ≡ entry.number
  pub answer_is : entry.outcome.answer ≡ Some receipt.answer
  pub same_op : receipt.answer.op ≡ op

abbrev pub GivesReceipt : Entry → Operation → Option Receipt → Type 0
GivesReceipt entry op None = (answer : Answer) → entry.outcome.answer ≡ Some answer → IsAnswerTo op answer → ⊥
GivesReceipt entry op (Some receipt) = IsGiven entry receipt op
