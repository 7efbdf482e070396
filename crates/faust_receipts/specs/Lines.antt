-- The lines that name what is wrong with receipts. The promises of `differs` and `short` rest on this file.
use Rattle.std.specs.Prelude.{ℕ, suc, cond, ◌==◌, ◌&&◌, ◌||◌, Bool, not, nat_lt, List, [], ◌∷◌, ◌++◌, codes, length, Option, Some, None, is_some}
use Rattle.std.specs.Fmt.{decimal}
use Rattle.std.specs.List.{list_any}
use Rattle.std.specs.Str.{bytes_eq}
use Rattle.faust_record.specs.Laws.{acts_of}
use Rattle.faust_record.specs.Operations.{Finished}
use Rattle.faust_record.specs.Runs.{entries_of}
use Rattle.faust_record.specs.declared.entry.Entry.{Entry}
use Rattle.faust_report.specs.Text.{done_line}
use Rattle.faust_receipts.specs.UserOperations.{user_completion}
use Rattle.faust_node.specs.declared.receipt.Receipt.{Receipt}

-- The report's line of the operation, as the receipt has it and as it completed.
abbrev pub told_line : Receipt → List ℕ
told_line receipt = done_line receipt.number receipt.answer

abbrev pub due_line : Option Finished → List ℕ
due_line None = codes "none"
due_line (Some finished) = done_line finished.number finished.answer

-- `receipt differs: LINE | LINE`: what the receipt says, and what is so.
abbrev pub differs_line : Receipt → Option Finished → List ℕ
differs_line receipt due = codes "receipt differs: " ++ (told_line receipt ++ (codes " | " ++ due_line due))

-- The first of the receipts of client i's user, from place u on, that differs; and of those of all users, from client i's on.
abbrev pub or_later : Option (List ℕ) → Option (List ℕ) → Option (List ℕ)
or_later None later = later
or_later (Some line) later = Some line

abbrev pub first_differing : List Entry → ℕ → ℕ → List Receipt → Option (List ℕ)
first_differing entries i u [] = None
first_differing entries i u (receipt ∷ rest) =
    let due = user_completion entries i u in
    cond (bytes_eq (told_line receipt) (due_line due)) (first_differing entries i (suc u) rest) (Some (differs_line receipt due))

abbrev pub first_differing_of : List Entry → ℕ → List (List Receipt) → Option (List ℕ)
first_differing_of entries i [] = None
first_differing_of entries i (receipts ∷ rest) =
    or_later (first_differing entries i 0 receipts) (first_differing_of entries (suc i) rest)

-- Client i stopped where it has a notice, or as many entries as a journal may have: arrivals aren't counted.
abbrev pub has_notice : Entry → Bool
has_notice entry = is_some entry.outcome.notice

abbrev pub has_stopped : List Entry → ℕ → Bool
has_stopped entries i = list_any has_notice (entries_of i entries) || (length (acts_of i entries) == 200000)

-- Its user is short where it has fewer receipts than it was to have, though its client didn't stop.
abbrev pub is_short : List Entry → ℕ → ℕ → List Receipt → Bool
is_short entries ops i receipts = nat_lt (length receipts) ops && not (has_stopped entries i)

-- `receipts short: user I has A of B`.
abbrev pub short_line : ℕ → ℕ → ℕ → List ℕ
short_line i has of =
    codes "receipts short: user " ++ (decimal i ++ (codes " has " ++ (decimal has ++ (codes " of " ++ decimal of))))

-- The first user that is short, from client i's on.
abbrev pub first_short : List Entry → ℕ → ℕ → List (List Receipt) → Option (List ℕ)
first_short entries ops i [] = None
first_short entries ops i (receipts ∷ rest) =
    cond (is_short entries ops i receipts) (Some (short_line i (length receipts) ops)) (first_short entries ops (suc i) rest)
