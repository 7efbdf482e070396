-- One pass over a record compares the receipts of a user with what it completes.
use Rattle.std.proofs.Common.{◌≡◌, ℕ, ◌+◌, ◌≤◌, ◌<◌, zero, suc, Bool, true, false, cond, List, [], ◌∷◌, ◌++◌, length, drop, get_or, Option, Some, None, option_to_list, refl, sym, ap, ◌∙◌, arith, length-append}
use Rattle.std.specs.Prelude.{codes, is_some, slice_get}
use Rattle.std.specs.Fmt.{decimal}
use Rattle.std.specs.Str.{bytes_eq}
use Rattle.std.proofs.Math.Seq.{drop-nil}
use Rattle.std.proofs.lemmas.List.{drop_all, drop_more}
use Rattle.std.proofs.lemmas.Bool.{cond-false, cond-true, false_from_ne_true}
use Rattle.std.proofs.lemmas.Slice.Eq.{bytes_eq-Decides}
use Rattle.faust_types.specs.Clients.{IsClient}
use Rattle.faust_types.specs.declared.config.Config.{Config}
use Rattle.faust_types.specs.declared.operation.Answer.{Answer}
use Rattle.faust_record.specs.Operations.{Finished}
use Rattle.faust_record.specs.Runs.{IsRun}
use Rattle.faust_record.specs.declared.entry.Entry.{Entry}
use Rattle.faust_record.proofs.Fed.{IsAt, at-place}
use Rattle.faust_report.specs.Text.{answer_text, done_line, name_text}
use Rattle.faust_receipts.specs.Comparing.{first_difference, told_among, told_in}
use Rattle.faust_receipts.specs.Lines.{differs_line, due_line, first_differing, first_differing_of, or_later, told_line}
use Rattle.faust_receipts.specs.UserOperations.{user_completion}
use Rattle.faust_node.specs.declared.receipt.Receipt.{Receipt}
use Rattle.faust_receipts.proofs.Told.{completion-told}

-- an entry that completes nothing for the user, and one that does
pub told-drop-none : (i : ℕ) (entries : List Entry) (q : ℕ) (entry d : Entry) → q < length entries → entry ≡ get_or entries q d
    → told_in i entry ≡ None → told_among i (drop q entries) ≡ told_among i (drop (q + 1) entries)
told-drop-none i entries q entry d within is none =
    let at : IsAt entries q entry = at-place entries q entry d within is in
    ap (told_among i) at.here ∙ ap (λ (o : Option Finished). option_to_list o ++ told_among i (drop (q + 1) entries)) none

pub told-drop-some : (i : ℕ) (entries : List Entry) (q : ℕ) (entry d : Entry) (finished : Finished) → q < length entries
    → entry ≡ get_or entries q d → told_in i entry ≡ Some finished
    → told_among i (drop q entries) ≡ finished ∷ told_among i (drop (q + 1) entries)
told-drop-some i entries q entry d finished within is some =
    let at : IsAt entries q entry = at-place entries q entry d within is in
    ap (told_among i) at.here ∙ ap (λ (o : Option Finished). option_to_list o ++ told_among i (drop (q + 1) entries)) some

-- a line of a completed operation isn't the word for none
longer : (number : ℕ) (answer : Answer) → 4 < length (done_line number answer)
longer number answer =
    let name = name_text answer.op.name in
    let rest = answer_text answer.op.kind answer in
    let tail : List ℕ = codes "done" ++ (32 ∷ (name ++ (32 ∷ rest))) in
    let whole : length (decimal number ++ (32 ∷ tail)) ≡ length (decimal number) + length (32 ∷ tail) =
    length-append (decimal number) (32 ∷ tail) in
    let all : length tail ≡ 4 + length (32 ∷ (name ++ (32 ∷ rest))) = length-append (codes "done") (32 ∷ (name ++ (32 ∷ rest))) in
    omega (arith, whole, all)

pub not-none : (number : ℕ) (answer : Answer) → bytes_eq (done_line number answer) (codes "none") ≡ false
not-none number answer =
    false_from_ne_true (bytes_eq (done_line number answer) (codes "none"))
    (λ same. let is : done_line number answer ≡ codes "none" = (bytes_eq-Decides (done_line number answer) (codes "none")).0 same in
    let four : length (done_line number answer) ≡ 4 = ap length is in
    omega (arith, longer number answer, four))

-- compared with what is due at its place, and with the completions in order
get-drop-none : (due : List Finished) (u : ℕ) → slice_get due u ≡ None → drop u due ≡ []
get-drop-none [] u none = drop-nil u
get-drop-none (f ∷ due) zero none = absurd (cc)
get-drop-none (f ∷ due) (suc u) none = get-drop-none due u none

some-same : (a b : Finished) → Some a ≡ Some b → a ≡ b
some-same a b h = cc

get-drop-some : (due : List Finished) (u : ℕ) (f : Finished) → slice_get due u ≡ Some f → drop u due ≡ f ∷ drop (suc u) due
get-drop-some [] zero f some = absurd (cc)
get-drop-some [] (suc u) f some = absurd (cc)
get-drop-some (g ∷ due) zero f some = ap (λ (x : Finished). x ∷ due) (some-same g f some)
get-drop-some (g ∷ due) (suc u) f some = get-drop-some due u f some

-- the first receipt at its place
compared-one : (receipt : Receipt) (rest : List Receipt) (later : Option (List ℕ)) (dues : List Finished) (u : ℕ) (due : Option Finished)
    → slice_get dues u ≡ due → later ≡ first_difference rest (drop (suc u) dues)
    → cond (bytes_eq (told_line receipt) (due_line due)) later (Some (differs_line receipt due))
    ≡ first_difference (receipt ∷ rest) (drop u dues)
compared-one receipt rest later dues u None is same =
    cond-false _ _ _ (not-none receipt.number receipt.answer)
    ∙ sym (ap (first_difference (receipt ∷ rest)) (get-drop-none dues u is))
compared-one receipt rest later dues u (Some finished) is same =
    ap (λ (o : Option (List ℕ)). cond (bytes_eq (told_line receipt) (due_line (Some finished))) o
    (Some (differs_line receipt (Some finished)))) same
    ∙ sym (ap (first_difference (receipt ∷ rest)) (get-drop-some dues u finished is))

compared : (entries : List Entry) (i : ℕ) (dues : List Finished) → ((u : ℕ) → user_completion entries i u ≡ slice_get dues u)
    → (u : ℕ) (receipts : List Receipt) → first_differing entries i u receipts ≡ first_difference receipts (drop u dues)
compared entries i dues at u [] = refl
compared entries i dues at u (receipt ∷ rest) =
    compared-one receipt rest (first_differing entries i (suc u) rest) dues u (user_completion entries i u) (sym (at u))
    (compared entries i dues at (suc u) rest)

pub first-difference : (config : Config) (entries : List Entry) (i : ℕ) (receipts : List Receipt) → IsRun config entries
    → IsClient config.clients i → first_differing entries i 0 receipts ≡ first_difference receipts (told_among i entries)
first-difference config entries i receipts run client =
    compared entries i (told_among i entries) (λ u. completion-told config entries i u run client) 0 receipts

-- one user after the other
pub differing-more : (entries : List Entry) (i : ℕ) (all : List (List Receipt)) (k : ℕ) (receipts : List Receipt) (d : List Receipt)
    → k < length all → receipts ≡ get_or all k d
    → first_differing_of entries i (drop k all)
    ≡ or_later (first_differing entries i 0 receipts) (first_differing_of entries (suc i) (drop (k + 1) all))
differing-more entries i all k receipts d within is =
    ap (first_differing_of entries i) (drop_more all k d within)
    ∙ ap (λ (r : List Receipt). or_later (first_differing entries i 0 r) (first_differing_of entries (suc i) (drop (k + 1) all))) (sym is)

-- user k + 1, whose receipts are right, or aren't
next-user : (config : Config) (entries : List Entry) (all : List (List Receipt)) (k : ℕ) (receipts d : List Receipt) → IsRun config entries
    → length all ≡ config.clients → k < length all → receipts ≡ get_or all k d
    → first_differing_of entries (k + 1) (drop k all)
    ≡ or_later (first_difference receipts (told_among (k + 1) entries)) (first_differing_of entries ((k + 1) + 1) (drop (k + 1) all))
next-user config entries all k receipts d run counted within is =
    let client : IsClient config.clients (k + 1) = record { from_one = omega arith; to_n = omega (arith, counted, within) } in
    let one : suc (k + 1) ≡ (k + 1) + 1 = omega arith in
    differing-more entries (k + 1) all k receipts d within is
    ∙ ap (λ (i : ℕ). or_later (first_differing entries (k + 1) 0 receipts) (first_differing_of entries i (drop (k + 1) all))) one
    ∙ ap (λ (o : Option (List ℕ)). or_later o (first_differing_of entries ((k + 1) + 1) (drop (k + 1) all)))
    (first-difference config entries (k + 1) receipts run client)

pub user-right : (config : Config) (entries : List Entry) (all : List (List Receipt)) (k : ℕ) (receipts d : List Receipt)
    (line : Option (List ℕ)) → IsRun config entries → length all ≡ config.clients → k < length all → receipts ≡ get_or all k d
    → line ≡ first_difference receipts (told_among (k + 1) entries) → line ≡ None
    → first_differing_of entries (k + 1) (drop k all) ≡ first_differing_of entries ((k + 1) + 1) (drop (k + 1) all)
user-right config entries all k receipts d line run counted within is due none =
    next-user config entries all k receipts d run counted within is
    ∙ ap (λ (o : Option (List ℕ)). or_later o (first_differing_of entries ((k + 1) + 1) (drop (k + 1) all))) (sym due ∙ none)

pub user-wrong : (config : Config) (entries : List Entry) (all : List (List Receipt)) (k : ℕ) (receipts d : List Receipt)
    (line : Option (List ℕ)) (text : List ℕ) → IsRun config entries → length all ≡ config.clients → k < length all
    → receipts ≡ get_or all k d → line ≡ first_difference receipts (told_among (k + 1) entries) → line ≡ Some text
    → line ≡ first_differing_of entries (k + 1) (drop k all)
user-wrong config entries all k receipts d line text run counted within is due some =
    some
    ∙ sym (next-user config entries all k receipts d run counted within is
    ∙ ap (λ (o : Option (List ℕ)). or_later o (first_differing_of entries ((k + 1) + 1) (drop (k + 1) all))) (sym due ∙ some))

pub no-more : (entries : List Entry) (i k : ℕ) (all : List (List Receipt)) → length all ≤ k
    → first_differing_of entries i (drop k all) ≡ None
no-more entries i k all past = ap (first_differing_of entries i) (drop_all k all past)

-- one receipt of a user
pub entry-silent : (i : ℕ) (entries : List Entry) (q : ℕ) (entry d : Entry) (receipts : List Receipt) → q < length entries
    → entry ≡ get_or entries q d → told_in i entry ≡ None
    → first_difference receipts (told_among i (drop q entries)) ≡ first_difference receipts (told_among i (drop (q + 1) entries))
entry-silent i entries q entry d receipts within is none =
    ap (first_difference receipts) (told-drop-none i entries q entry d within is none)

abbrev difference : Receipt → Finished → Option (List ℕ)
difference receipt finished =
    cond (bytes_eq (told_line receipt) (due_line (Some finished))) None (Some (differs_line receipt (Some finished)))

cond-none : (b : Bool) (line : List ℕ) → cond b None (Some line) ≡ None → b ≡ true
cond-none true line h = refl
cond-none false line h = absurd (cc)

cond-some : (b : Bool) (line text : List ℕ) (other : Option (List ℕ)) → cond b None (Some line) ≡ Some text
    → cond b other (Some line) ≡ Some text
cond-some true line text other h = absurd (cc)
cond-some false line text other h = h

told-next : (i : ℕ) (entries : List Entry) (q : ℕ) (entry d : Entry) (finished : Finished) (told : List Receipt) (next : ℕ)
    (receipt e : Receipt) → q < length entries → entry ≡ get_or entries q d → told_in i entry ≡ Some finished → next < length told
    → receipt ≡ get_or told next e
    → first_difference (drop next told) (told_among i (drop q entries))
    ≡ first_difference (receipt ∷ drop (next + 1) told) (finished ∷ told_among i (drop (q + 1) entries))
told-next i entries q entry d finished told next receipt e within is some inside at =
    ap (λ (l : List Receipt). first_difference l (told_among i (drop q entries)))
    (drop_more told next e inside ∙ ap (λ (r : Receipt). r ∷ drop (next + 1) told) (sym at))
    ∙ ap (first_difference (receipt ∷ drop (next + 1) told)) (told-drop-some i entries q entry d finished within is some)

pub receipt-right : (i : ℕ) (entries : List Entry) (q : ℕ) (entry d : Entry) (finished : Finished) (told : List Receipt) (next : ℕ)
    (receipt e : Receipt) (line : Option (List ℕ)) → q < length entries → entry ≡ get_or entries q d → told_in i entry ≡ Some finished
    → next < length told → receipt ≡ get_or told next e → line ≡ difference receipt finished → line ≡ None
    → first_difference (drop next told) (told_among i (drop q entries))
    ≡ first_difference (drop (next + 1) told) (told_among i (drop (q + 1) entries))
receipt-right i entries q entry d finished told next receipt e line within is some inside at due none =
    told-next i entries q entry d finished told next receipt e within is some inside at
    ∙ cond-true _ _ _ (cond-none _ _ (sym due ∙ none))

pub receipt-wrong : (i : ℕ) (entries : List Entry) (q : ℕ) (entry d : Entry) (finished : Finished) (told : List Receipt) (next : ℕ)
    (receipt e : Receipt) (line : Option (List ℕ)) (text : List ℕ) → q < length entries → entry ≡ get_or entries q d
    → told_in i entry ≡ Some finished → next < length told → receipt ≡ get_or told next e → line ≡ difference receipt finished
    → line ≡ Some text → line ≡ first_difference (drop next told) (told_among i (drop q entries))
receipt-wrong i entries q entry d finished told next receipt e line text within is some inside at due wrong =
    wrong
    ∙ sym (told-next i entries q entry d finished told next receipt e within is some inside at
    ∙ cond-some _ _ _ _ (sym due ∙ wrong))

pub all-told : (told : List Receipt) (next : ℕ) (due : List Finished) → length told ≤ next → first_difference (drop next told) due ≡ None
all-told told next due past = ap (λ (l : List Receipt). first_difference l due) (drop_all next told past)

pub none-due : (i : ℕ) (entries : List Entry) (q : ℕ) (told : List Receipt) (next : ℕ) (receipt e : Receipt) → length entries ≤ q
    → next < length told → receipt ≡ get_or told next e
    → first_difference (drop next told) (told_among i (drop q entries)) ≡ Some (differs_line receipt None)
none-due i entries q told next receipt e past inside at =
    ap (λ (l : List Entry). first_difference (drop next told) (told_among i l)) (drop_all q entries past)
    ∙ ap (λ (l : List Receipt). first_difference l [])
    (drop_more told next e inside ∙ ap (λ (r : Receipt). r ∷ drop (next + 1) told) (sym at))

-- whether there is a line
none-line : (o : Option (List ℕ)) → is_some o ≡ false → o ≡ None
none-line None h = refl
none-line (Some x) h = absurd (cc)

pub receipt-named : (i : ℕ) (entries : List Entry) (q : ℕ) (entry d : Entry) (finished : Finished) (told : List Receipt) (next : ℕ)
    (receipt e : Receipt) (line : Option (List ℕ)) → q < length entries → entry ≡ get_or entries q d → told_in i entry ≡ Some finished
    → next < length told → receipt ≡ get_or told next e → line ≡ difference receipt finished → is_some line ≡ true
    → line ≡ first_difference (drop next told) (told_among i (drop q entries))
receipt-named i entries q entry d finished told next receipt e None within is some inside at due named = absurd (cc)
receipt-named i entries q entry d finished told next receipt e (Some text) within is some inside at due named =
    receipt-wrong i entries q entry d finished told next receipt e (Some text) text within is some inside at due refl

pub receipt-passed : (i : ℕ) (entries : List Entry) (q : ℕ) (entry d : Entry) (finished : Finished) (told : List Receipt) (next now : ℕ)
    (receipt e : Receipt) (line : Option (List ℕ)) → q < length entries → entry ≡ get_or entries q d → told_in i entry ≡ Some finished
    → next < length told → receipt ≡ get_or told next e → line ≡ difference receipt finished → is_some line ≡ false → now ≡ next + 1
    → first_difference told (told_among i entries) ≡ first_difference (drop next told) (told_among i (drop q entries))
    → (now ≤ length told) × (first_difference told (told_among i entries)
    ≡ first_difference (drop now told) (told_among i (drop (q + 1) entries)))
receipt-passed i entries q entry d finished told next now receipt e line within is some inside at due none more so_far = (
  omega (arith, more, inside),
  so_far ∙ receipt-right i entries q entry d finished told next receipt e line within is some inside at due (none-line line none)
      ∙ ap (λ (k : ℕ). first_difference (drop k told) (told_among i (drop (q + 1) entries))) (sym more),
)

pub entry-passed : (i : ℕ) (entries : List Entry) (q : ℕ) (entry d : Entry) (told : List Receipt) (next now : ℕ)
    → q < length entries → entry ≡ get_or entries q d → told_in i entry ≡ None → next ≤ length told → now ≡ next
    → first_difference told (told_among i entries) ≡ first_difference (drop next told) (told_among i (drop q entries))
    → (now ≤ length told) × (first_difference told (told_among i entries)
    ≡ first_difference (drop now told) (told_among i (drop (q + 1) entries)))
entry-passed i entries q entry d told next now within is none few same so_far = (
  omega (arith, same, few),
  so_far ∙ entry-silent i entries q entry d (drop next told) within is none
      ∙ ap (λ (k : ℕ). first_difference (drop k told) (told_among i (drop (q + 1) entries))) (sym same),
)

pub user-named : (config : Config) (entries : List Entry) (all : List (List Receipt)) (k : ℕ) (receipts d : List Receipt)
    (line : Option (List ℕ)) → IsRun config entries → length all ≡ config.clients → k < length all → receipts ≡ get_or all k d
    → line ≡ first_difference receipts (told_among (k + 1) entries) → is_some line ≡ true
    → line ≡ first_differing_of entries (k + 1) (drop k all)
user-named config entries all k receipts d None run counted within is due named = absurd (cc)
user-named config entries all k receipts d (Some text) run counted within is due named =
    user-wrong config entries all k receipts d (Some text) text run counted within is due refl

pub user-passed : (config : Config) (entries : List Entry) (all : List (List Receipt)) (k : ℕ) (receipts d : List Receipt)
    (line : Option (List ℕ)) → IsRun config entries → length all ≡ config.clients → k < length all → receipts ≡ get_or all k d
    → line ≡ first_difference receipts (told_among (k + 1) entries) → is_some line ≡ false
    → first_differing_of entries (k + 1) (drop k all) ≡ first_differing_of entries ((k + 1) + 1) (drop (k + 1) all)
user-passed config entries all k receipts d line run counted within is due none =
    user-right config entries all k receipts d line run counted within is due (none-line line none)
