-- How one pass over a record compares receipts. This file helps proofs.
use Rattle.std.specs.Prelude.{ℕ, ◌==◌, cond, List, [], ◌∷◌, ◌++◌, Option, Some, None, option_map, option_to_list}
use Rattle.std.specs.Str.{bytes_eq}
use Rattle.faust_types.specs.declared.operation.Answer.{Answer}
use Rattle.faust_record.specs.Operations.{Finished}
use Rattle.faust_record.specs.declared.entry.Entry.{Entry}
use Rattle.faust_receipts.specs.Lines.{differs_line, due_line, told_line}
use Rattle.faust_node.specs.declared.receipt.Receipt.{Receipt}

-- What an entry completes for client i's user.
abbrev pub unless_dummy : ℕ → Option Answer → Option Finished
unless_dummy number None = None
unless_dummy number (Some answer) = cond answer.op.dummy None (Some (record { answer = answer; number = number }))

abbrev pub told_in : ℕ → Entry → Option Finished
told_in i entry = cond (entry.client == i) (unless_dummy entry.number entry.outcome.answer) None

abbrev pub with_number : ℕ → Option Answer → Option Finished
with_number number answer = option_map (λ (a : Answer). record { answer = a; number = number }) answer

-- All that entries complete for it, in order.
abbrev pub told_among : ℕ → List Entry → List Finished
told_among i [] = []
told_among i (entry ∷ rest) = option_to_list (told_in i entry) ++ told_among i rest

-- The first receipt that differs from the completion at its place.
abbrev pub first_difference : List Receipt → List Finished → Option (List ℕ)
first_difference [] due = None
first_difference (receipt ∷ rest) [] = Some (differs_line receipt None)
first_difference (receipt ∷ rest) (finished ∷ due) =
    cond (bytes_eq (told_line receipt) (due_line (Some finished))) (first_difference rest due) (Some (differs_line receipt (Some finished)))
