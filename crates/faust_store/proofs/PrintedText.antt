-- Printing a record entry by entry.
use Rattle.std.proofs.Common.{◌≡◌, ℕ, ◌+◌, ◌≤◌, zero, suc, List, [], ◌∷◌, ◌++◌, length, drop, Some, None, refl, sym, ap, ◌∙◌, arith, append_assoc}
use Rattle.std.specs.Prelude.{slice_get}
use Rattle.std.specs.Fmt.{decimal}
use Rattle.std.proofs.lemmas.List.{append-nil}
use Rattle.faust_text.specs.declared.head.Title.TheVariants as titles
use Rattle.faust_text.specs.Heads.{head_lines, head_text}
use Rattle.faust_text.specs.Lines.{ended_text}
use Rattle.faust_text.specs.Tokens.{joined}
use Rattle.faust_record.specs.Runs.{Run}
use Rattle.faust_record.specs.declared.entry.Entry.{Entry}
use Rattle.faust_record.specs.declared.entry.Input.{Input}
use Rattle.faust_record.specs.declared.entry.Input.TheVariants as inputs
use Rattle.faust_store.specs.Texts.{end_line, entry_line, entry_lines, input_tokens, record_text}

-- The number of an entry stands before its other tokens.
input_behind : (token : List ℕ) (version i : ℕ) (input : Input)
    → joined (token ∷ input_tokens version i input) ≡ token ++ (32 ∷ joined (input_tokens version i input))
input_behind token version i (inputs.Write value) = refl
input_behind token version i (inputs.Read register) = refl
input_behind token version i (inputs.Reply bytes) = refl
input_behind token version i (inputs.Peer bytes) = refl
input_behind token version i (inputs.Tick moment) = refl
input_behind token version i (inputs.Arrive message) = refl

pub line_is : (version : ℕ) (e : Entry)
    → entry_line version e ≡ decimal e.number ++ (32 ∷ joined (input_tokens version e.client e.input))
line_is version e = input_behind (decimal e.number) version e.client e.input

ended_text-append : (xs ys : List (List ℕ)) → ended_text (xs ++ ys) ≡ ended_text xs ++ ended_text ys
ended_text-append [] ys = refl
ended_text-append (x ∷ xs) ys =
    let line = x ++ 10 ∷ [] in
    ap (λ (t : List ℕ). line ++ t) (ended_text-append xs ys) ∙ sym (append_assoc line (ended_text xs) (ended_text ys))

-- The text of the entries from place q on.
abbrev pub text_from : ℕ → List Entry → ℕ → List ℕ
text_from version entries q = ended_text (entry_lines version (drop q entries))

lines_next : (version : ℕ) (entries : List Entry) (q : ℕ) (e : Entry) → slice_get entries q ≡ Some e
    → entry_lines version (drop q entries) ≡ entry_line version e ∷ entry_lines version (drop (suc q) entries)
lines_next version [] q e found = absurd (cc)
lines_next version (x ∷ xs) zero e found = let same : x ≡ e = cc in ap (λ (y : Entry). entry_line version y ∷ entry_lines version xs) same
lines_next version (x ∷ xs) (suc q) e found = lines_next version xs q e found

pub text_next : (version : ℕ) (entries : List Entry) (q : ℕ) (e : Entry) → slice_get entries q ≡ Some e
    → text_from version entries q ≡ (entry_line version e ++ 10 ∷ []) ++ text_from version entries (q + 1)
text_next version entries q e found =
    let next : suc q ≡ q + 1 = omega arith in
    ap ended_text (lines_next version entries q e found)
    ∙ ap (λ (p : ℕ). (entry_line version e ++ 10 ∷ []) ++ text_from version entries p) next

pub none_beyond : (entries : List Entry) (q : ℕ) → slice_get entries q ≡ None → length entries ≤ q
none_beyond [] q none = omega arith
none_beyond (x ∷ xs) zero none = absurd (cc)
none_beyond (x ∷ xs) (suc q) none = omega (arith, none_beyond xs q none)

drop_beyond : (entries : List Entry) (q : ℕ) → length entries ≤ q → drop q entries ≡ []
drop_beyond [] zero beyond = refl
drop_beyond [] (suc q) beyond = refl
drop_beyond (x ∷ xs) zero beyond = absurd (omega (arith, beyond))
drop_beyond (x ∷ xs) (suc q) beyond = drop_beyond xs q (omega (arith, beyond))

pub text_behind : (version : ℕ) (entries : List Entry) (q : ℕ) → length entries ≤ q → text_from version entries q ≡ []
text_behind version entries q beyond = ap (λ (es : List Entry). ended_text (entry_lines version es)) (drop_beyond entries q beyond)

-- The whole text.
abbrev pub before_end : Run → ℕ → List ℕ
before_end run version = head_text titles.Record version run.config ++ text_from version run.entries 0

pub whole_text : (run : Run) (version : ℕ) → record_text run version ≡ before_end run version ++ (end_line (length run.entries) ++ 10 ∷ [])
unfolding record_text
whole_text run version =
    let head = head_lines titles.Record version run.config in
    let lines = entry_lines version run.entries in
    let last = end_line (length run.entries) in
    let end = last ++ 10 ∷ [] in
    ended_text-append head (lines ++ last ∷ [])
    ∙ (ap (λ (t : List ℕ). ended_text head ++ t) (ended_text-append lines (last ∷ [])
    ∙ ap (λ (t : List ℕ). ended_text lines ++ t) (append-nil end))
    ∙ sym (append_assoc (ended_text head) (ended_text lines) end))

-- One entry on, and the end.
pub text_put : (version : ℕ) (entries : List Entry) (q : ℕ) (e : Entry) (before after : List ℕ) → slice_get entries q ≡ Some e
    → after ≡ before ++ (entry_line version e ++ 10 ∷ [])
    → after ++ text_from version entries (q + 1) ≡ before ++ text_from version entries q
text_put version entries q e before after found after_is =
    let line = entry_line version e ++ 10 ∷ [] in
    let rest = text_from version entries (q + 1) in
    ap (λ (t : List ℕ). t ++ rest) after_is
    ∙ (append_assoc before line rest ∙ ap (λ (t : List ℕ). before ++ t) (sym (text_next version entries q e found)))

pub text_skipped : (version : ℕ) (entries : List Entry) (q : ℕ) → slice_get entries q ≡ None
    → text_from version entries (q + 1) ≡ text_from version entries q
text_skipped version entries q none =
    let beyond = none_beyond entries q none in
    text_behind version entries (q + 1) (omega (arith, beyond)) ∙ sym (text_behind version entries q beyond)

pub text_ended : (run : Run) (version q count : ℕ) (text whole : List ℕ) → text ++ text_from version run.entries q ≡ before_end run version
    → length run.entries ≤ q → count ≡ length run.entries → whole ≡ text ++ (end_line count ++ 10 ∷ [])
    → whole ≡ record_text run version
text_ended run version q count text whole so_far beyond counted whole_is =
    let none : text_from version run.entries q ≡ [] = text_behind version run.entries q beyond in
    let text_is : text ≡ before_end run version = sym (append-nil text) ∙ (ap (λ (t : List ℕ). text ++ t) (sym none) ∙ so_far) in
    whole_is
    ∙ (ap (λ (n : ℕ). text ++ (end_line n ++ 10 ∷ [])) counted
    ∙ (ap (λ (t : List ℕ). t ++ (end_line (length run.entries) ++ 10 ∷ [])) text_is
    ∙ sym (whole_text run version)))
