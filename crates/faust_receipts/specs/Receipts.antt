-- That receipts are right. The promises of `differs` and `short` rest on this file.
use Rattle.std.specs.Prelude.{◌≡◌, ℕ, suc, ◌^◌, ◌<◌, List, [], ◌∷◌, IfSome, IsSomeAnd}
use Rattle.faust_types.specs.Ranges.{IsValue}
use Rattle.faust_types.specs.declared.operation.Answer.{Answer}
use Rattle.faust_record.specs.Operations.{Finished}
use Rattle.faust_record.specs.declared.entry.Entry.{Entry}
use Rattle.faust_receipts.specs.UserOperations.{user_completion}
use Rattle.faust_node.specs.declared.receipt.Receipt.{Receipt}

-- A receipt is a completion: of the entry with this number, with this answer.
pub record IsCompletion (receipt : Receipt) (finished : Finished) : Type 0 where
  pub same_number : receipt.number ≡ finished.number
  pub same_answer : receipt.answer ≡ finished.answer

-- The receipts of client i's user are the completions of the operations that it began, from place u on; and those of
-- all users, from client i's on.
abbrev pub AreCompletions : List Entry → ℕ → ℕ → List Receipt → Type 0
AreCompletions entries i u [] = Unit {0}
AreCompletions entries i u (receipt ∷ rest) =
    IsSomeAnd (user_completion entries i u) (IsCompletion receipt) × AreCompletions entries i (suc u) rest

abbrev pub AreAllCompletions : List Entry → ℕ → List (List Receipt) → Type 0
AreAllCompletions entries i [] = Unit {0}
AreAllCompletions entries i (receipts ∷ rest) = AreCompletions entries i 0 receipts × AreAllCompletions entries (suc i) rest

-- The numbers of an answer fit their types, and its value is one, so its line tells all of it.
pub record IsPrintable (number : ℕ) (answer : Answer) : Type 0 where
  pub number_fits : number < 2 ^ 64
  pub client_fits : answer.op.name.client < 2 ^ 64
  pub t_fits : answer.op.name.t < 2 ^ 64
  pub register_fits : answer.op.register < 2 ^ 64
  pub asof_fits : answer.asof < 2 ^ 64
  pub value_fits : IfSome answer.value IsValue

abbrev pub ArePrintable : List Receipt → Type 0
ArePrintable [] = Unit {0}
ArePrintable (receipt ∷ rest) = IsPrintable receipt.number receipt.answer × ArePrintable rest

abbrev pub AreAllPrintable : List (List Receipt) → Type 0
AreAllPrintable [] = Unit {0}
AreAllPrintable (receipts ∷ rest) = ArePrintable receipts × AreAllPrintable rest
