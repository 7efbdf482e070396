-- Lines read one by one.
use Rattle.std.proofs.Common.{◌≡◌, ℕ, ◌+◌, ◌-◌, ◌<◌, ◌≤◌, suc, Bool, true, false, cond, eqb, ltb, List, [], ◌∷◌, ◌++◌, length, take, drop, slice_range, length-drop, refl, sym, ap, ◌∙◌, subst, inl, inr, ◌↔◌, arith, append_assoc}
use Rattle.std.proofs.lemmas.Bool.{cond-true, cond-false, cases_Bool, eqb-true, false≢true}
use Rattle.std.proofs.lemmas.Bool.Decides.{nat_tests}
use Rattle.std.specs.List.{AllByRecursion, flat_map}
use Rattle.std.proofs.lemmas.List.{length-take-le, drop-drop, append-nil}
use Rattle.faust_text.specs.declared.line.Line.{Line}
use Rattle.faust_text.specs.Lines.{TextLine, begun, lines_of, whole, IsWithout, AreInOrder, AreLines, ended_text, ended_lines, places_from, BeginsAt}
use Rattle.faust_text.specs.Tokens.{len_before}

abbrev pub has : ℕ → List ℕ → Bool
has b [] = false
has b (x ∷ xs) = cond (eqb x b) true (has b xs)

abbrev pub first_line : List ℕ → TextLine
first_line bytes = record { bytes = take (len_before 10 bytes) bytes; ended = has 10 bytes }

from_begun : (b : ℕ) (bs : List ℕ) → begun b (lines_of bs) ≡ record { bytes = b ∷ take (len_before 10 bs) bs; ended = has 10 bs }
    ∷ lines_of (drop (suc (len_before 10 bs)) bs)
    → lines_of (b ∷ bs) ≡ first_line (b ∷ bs) ∷ lines_of (drop (suc (len_before 10 (b ∷ bs))) (b ∷ bs))
from_begun b bs step =
    elim (eqb b 10) as (λ t. cond t (record { bytes = []; ended = true } ∷ lines_of bs) (begun b (lines_of bs))
    ≡ record { bytes = take (cond t 0 (suc (len_before 10 bs))) (b ∷ bs); ended = cond t true (has 10 bs) }
    ∷ lines_of (drop (suc (cond t 0 (suc (len_before 10 bs)))) (b ∷ bs))) [
      | true ↦ refl
      | false ↦ step
    ]

-- The lines of bytes are the first one, and those of the bytes behind its line feed.
pub lines_of-first : (b : ℕ) (bs : List ℕ)
    → lines_of (b ∷ bs) ≡ first_line (b ∷ bs) ∷ lines_of (drop (suc (len_before 10 (b ∷ bs))) (b ∷ bs))
lines_of-first b [] = from_begun b [] refl
lines_of-first b (c ∷ cs) = from_begun b (c ∷ cs) (ap (begun b) (lines_of-first c cs))

-- A byte stands among others where fewer than all come before the first one.
pub has-before : (b : ℕ) (xs : List ℕ) → has b xs ≡ ltb (len_before b xs) (length xs)
has-before b [] = refl
has-before b (x ∷ xs) =
    elim (eqb x b) as (λ t. cond t true (has b xs) ≡ ltb (cond t 0 (suc (len_before b xs))) (suc (length xs))) [
      | true ↦ grind (arith, nat_tests)
      | false ↦ has-before b xs ∙ grind (arith, nat_tests)
    ]

pub lines_of-nonempty : (bytes : List ℕ) → 0 < length bytes
    → lines_of bytes ≡ record { bytes = take (len_before 10 bytes) bytes; ended = ltb (len_before 10 bytes) (length bytes) }
    ∷ lines_of (drop (suc (len_before 10 bytes)) bytes)
lines_of-nonempty [] some = absurd (omega arith)
lines_of-nonempty (b ∷ bs) some =
    lines_of-first b bs
    ∙ ap (λ t. record { bytes = take (len_before 10 (b ∷ bs)) (b ∷ bs); ended = t }
    ∷ lines_of (drop (suc (len_before 10 (b ∷ bs))) (b ∷ bs))) (has-before 10 (b ∷ bs))

-- The line at a place, found by the bytes before its line feed.
pub begins-here : (input : List ℕ) (from len : ℕ) → from < length input → len ≡ len_before 10 (drop from input)
    → len ≤ length (drop from input)
    → BeginsAt input from (record { span = record { start = from; end = from + len }; ended = ltb (from + len) (length input) })
begins-here input from len below count fits =
    let rest = drop from input in
    let rest_len = length-drop from input in
    let some : 0 < length rest = omega arith in
    let here : (n : ℕ) → n ≡ len_before 10 rest
    → lines_of rest ≡ record { bytes = take n rest; ended = ltb n (length rest) } ∷ lines_of (drop (suc n) rest) =
    λ n e. subst (λ (k : ℕ). lines_of rest ≡ record { bytes = take k rest; ended = ltb k (length rest) } ∷ lines_of (drop (suc k) rest))
    (sym e) (lines_of-nonempty rest some) in
    let text : take len rest ≡ slice_range input from (from + len) = ap (λ n. take n rest) (omega arith) in
    let ended : ltb len (length rest) ≡ ltb (from + len) (length input) = grind (arith, nat_tests) in
    let behind : drop (suc len) rest ≡ drop (from + len + 1) input = drop-drop (suc len) from input
    ∙ ap (λ n. drop n input) (omega arith) in
    record {
      lines_from = here len count ∙ (ap (λ t. record { bytes = t; ended = ltb len (length rest) } ∷ lines_of (drop (suc len) rest)) text
          ∙ (ap (λ t. record { bytes = slice_range input from (from + len); ended = t } ∷ lines_of (drop (suc len) rest)) ended
          ∙ ap (λ t. record { bytes = slice_range input from (from + len); ended = ltb (from + len) (length input) }
          ∷ lines_of t) behind));
      starts = refl;
      not_before = omega arith;
      within = omega arith;
      not_end = below;
    }

-- The places of lines, one line on.
pub places-more : (input : List ℕ) (from : ℕ) (line : Line) → BeginsAt input from line
    → places_from from (lines_of (drop from input)) ≡ line ∷ places_from (line.span.end + 1) (lines_of (drop (line.span.end + 1) input))
places-more input from line begins =
    let after = lines_of (drop (line.span.end + 1) input) in
    let len : from + length (slice_range input line.span.start line.span.end) ≡ line.span.end =
    omega (
      arith,
      begins.starts,
      begins.not_before,
      begins.within,
      length-take-le (line.span.end - line.span.start) (drop line.span.start input) (omega (
        arith,
        begins.starts,
        begins.not_before,
        begins.within,
        length-drop line.span.start input,
      )),
    ) in
    ap (places_from from) begins.lines_from
    ∙ (ap (λ n. record { span = record { start = from; end = n }; ended = line.ended } ∷ places_from (n + 1) after) len
    ∙ ap (λ n. record { span = record { start = n; end = line.span.end }; ended = line.ended } ∷ places_from (line.span.end + 1) after)
    (sym begins.starts))

-- The lines of bytes are lines of them, and there are no others.
whole-begun : (b : ℕ) (lines : List TextLine) → flat_map whole (begun b lines) ≡ b ∷ flat_map whole lines
whole-begun b [] = refl
whole-begun b (line ∷ lines) = refl

lines-together : (bytes : List ℕ) → bytes ≡ flat_map whole (lines_of bytes)
lines-together [] = refl
lines-together (b ∷ bs) =
    let more = lines-together bs in
    elim (cases_Bool (eqb b 10)) [
      | inl feed ↦ ap (λ c. c ∷ bs) (eqb-true b 10 feed)
          ∙ (ap (λ cs. 10 ∷ cs) more ∙ sym (ap (flat_map whole) (cond-true (eqb b 10) _ (begun b (lines_of bs)) feed)))
      | inr other ↦ ap (λ cs. b ∷ cs) more ∙ (sym (whole-begun b (lines_of bs))
          ∙ sym (ap (flat_map whole) (cond-false (eqb b 10) (record { bytes = []; ended = true } ∷ lines_of bs) _ other)))
    ]

order-ended : (lines : List TextLine) → AreInOrder lines → AreInOrder (record { bytes = []; ended = true } ∷ lines)
order-ended [] ordered = (tt, λ e. absurd (false≢true (sym e)))
order-ended (line ∷ lines) ordered = (tt, refl, ordered)

order-begun : (b : ℕ) (lines : List TextLine) → eqb b 10 ≡ false → AreInOrder lines → AreInOrder (begun b lines)
order-begun b [] other ordered = ((other, tt), λ _. omega arith)
order-begun b (line ∷ []) other ordered = ((other, ordered.0), λ _. omega arith)
order-begun b (line ∷ next ∷ lines) other ordered = ((other, ordered.0), ordered.1, ordered.2)

lines-ordered : (bytes : List ℕ) → AreInOrder (lines_of bytes)
lines-ordered [] = tt
lines-ordered (b ∷ bs) =
    let more = lines-ordered bs in
    elim (cases_Bool (eqb b 10)) [
      | inl feed ↦ subst AreInOrder (sym (cond-true (eqb b 10) _ (begun b (lines_of bs)) feed)) (order-ended (lines_of bs) more)
      | inr other ↦ subst AreInOrder (sym (cond-false (eqb b 10) (record { bytes = []; ended = true } ∷ lines_of bs) _ other))
          (order-begun b (lines_of bs) other more)
    ]

lines_of-ended : (bytes rest : List ℕ) → IsWithout 10 bytes
    → lines_of ((bytes ++ 10 ∷ []) ++ rest) ≡ record { bytes = bytes; ended = true } ∷ lines_of rest
lines_of-ended [] rest none = refl
lines_of-ended (b ∷ bs) rest none =
    cond-false (eqb b 10) (record { bytes = []; ended = true } ∷ lines_of ((bs ++ 10 ∷ []) ++ rest)) _ none.0
    ∙ ap (begun b) (lines_of-ended bs rest none.1)

lines_of-open : (bytes : List ℕ) → IsWithout 10 bytes → 0 < length bytes
    → lines_of (bytes ++ []) ≡ record { bytes = bytes; ended = false } ∷ []
lines_of-open [] none some = absurd (omega arith)
lines_of-open (b ∷ []) none some = cond-false (eqb b 10) _ (begun b []) none.0
lines_of-open (b ∷ c ∷ cs) none some =
    cond-false (eqb b 10) (record { bytes = []; ended = true } ∷ lines_of ((c ∷ cs) ++ [])) _ none.0
    ∙ ap (begun b) (lines_of-open (c ∷ cs) none.1 (omega arith))

one_line : (line : TextLine) (rest : List ℕ) (lines : List TextLine) → IsWithout 10 line.bytes → lines_of rest ≡ lines → line.ended ≡ true
    → lines_of (whole line ++ rest) ≡ line ∷ lines
one_line line rest lines none more ended =
    ap (λ t. lines_of ((line.bytes ++ cond t (10 ∷ []) []) ++ rest)) ended
    ∙ (lines_of-ended line.bytes rest none ∙ (ap (λ ls. record { bytes = line.bytes; ended = true } ∷ ls) more
    ∙ ap (λ t. record { bytes = line.bytes; ended = t } ∷ lines) (sym ended)))

last_line : (line : TextLine) → IsWithout 10 line.bytes → (line.ended ≡ false → 0 < length line.bytes)
    → lines_of (whole line ++ []) ≡ line ∷ []
last_line line none some =
    elim (cases_Bool line.ended) [
      | inl ended ↦ one_line line [] [] none refl ended
      | inr open_end ↦
          ap (λ t. lines_of ((line.bytes ++ cond t (10 ∷ []) []) ++ [])) open_end
          ∙ (ap (λ bs. lines_of bs) (append-nil (line.bytes ++ []))
          ∙ (lines_of-open line.bytes none (some open_end) ∙ ap (λ t. record { bytes = line.bytes; ended = t } ∷ []) (sym open_end)))
    ]

lines_of-whole : (lines : List TextLine) → AreInOrder lines → lines_of (flat_map whole lines) ≡ lines
lines_of-whole [] ordered = refl
lines_of-whole (line ∷ []) ordered = last_line line ordered.0 ordered.1
lines_of-whole (line ∷ next ∷ lines) ordered =
    one_line line (flat_map whole (next ∷ lines)) (next ∷ lines) ordered.0 (lines_of-whole (next ∷ lines) ordered.2) ordered.1

pub lines_are : (bytes : List ℕ) (lines : List TextLine) → AreLines bytes lines ↔ (lines ≡ lines_of bytes)
lines_are bytes lines = (
  λ are. sym (ap lines_of are.together ∙ lines_of-whole lines are.in_order),
  λ is. record {
    together = lines-together bytes ∙ ap (flat_map whole) (sym is);
    in_order = subst AreInOrder (sym is) (lines-ordered bytes);
  },
)

pub lines_of_ended_text : (texts : List (List ℕ)) → AllByRecursion (IsWithout 10) texts → lines_of (ended_text texts) ≡ ended_lines texts
lines_of_ended_text [] none = refl
lines_of_ended_text (text ∷ texts) none =
    lines_of-ended text (ended_text texts) none.0 ∙ ap (λ ls. record { bytes = text; ended = true } ∷ ls) (lines_of_ended_text texts none.1)

-- Lines that are all ended are those of a text of whole lines.
whole-ended : (texts : List (List ℕ)) → flat_map whole (ended_lines texts) ≡ ended_text texts
whole-ended [] = refl
whole-ended (text ∷ texts) = ap (λ bs. (text ++ 10 ∷ []) ++ bs) (whole-ended texts)

without-ended : (texts : List (List ℕ)) → AreInOrder (ended_lines texts) → AllByRecursion (IsWithout 10) texts
without-ended [] ordered = tt
without-ended (text ∷ []) ordered = (ordered.0, tt)
without-ended (text ∷ next ∷ texts) ordered = (ordered.0, without-ended (next ∷ texts) ordered.2)

pub ended_text-only : (bytes : List ℕ) (texts : List (List ℕ)) → lines_of bytes ≡ ended_lines texts
    → (bytes ≡ ended_text texts) × AllByRecursion (IsWithout 10) texts
ended_text-only bytes texts are = (
  lines-together bytes ∙ (ap (flat_map whole) are ∙ whole-ended texts),
  without-ended texts (subst AreInOrder are (lines-ordered bytes)),
)

five_grouped : (a b c d e f : List ℕ) → ((((a ++ b) ++ c) ++ d) ++ e) ++ f ≡ a ++ (b ++ (c ++ (d ++ (e ++ f))))
five_grouped a b c d e f = simp append_assoc

ended_text-append : (xs ys : List (List ℕ)) → ended_text (xs ++ ys) ≡ ended_text xs ++ ended_text ys
ended_text-append [] ys = refl
ended_text-append (x ∷ xs) ys = ap (λ ts. (x ++ 10 ∷ []) ++ ts) (ended_text-append xs ys)
    ∙ sym (append_assoc (x ++ 10 ∷ []) (ended_text xs) (ended_text ys))

-- A text that is put together line by line, with some lines behind the first.
pub lines_put : (a : List ℕ) (some : List (List ℕ)) (b c d e : List ℕ)
    → (((((a ++ 10 ∷ []) ++ ended_text some) ++ (b ++ 10 ∷ [])) ++ (c ++ 10 ∷ [])) ++ (d ++ 10 ∷ [])) ++ (e ++ 10 ∷ [])
    ≡ ended_text (a ∷ (some ++ (b ∷ c ∷ d ∷ e ∷ [])))
lines_put a some b c d e =
    let last : ended_text (b ∷ c ∷ d ∷ e ∷ []) ≡ (b ++ 10 ∷ []) ++ ((c ++ 10 ∷ []) ++ ((d ++ 10 ∷ []) ++ (e ++ 10 ∷ []))) =
    ap (λ ts. (b ++ 10 ∷ []) ++ ((c ++ 10 ∷ []) ++ ((d ++ 10 ∷ []) ++ ts))) (append-nil (e ++ 10 ∷ [])) in
    let whole : ended_text (some ++ (b ∷ c ∷ d ∷ e ∷ [])) ≡ ended_text some
    ++ ((b ++ 10 ∷ []) ++ ((c ++ 10 ∷ []) ++ ((d ++ 10 ∷ []) ++ (e ++ 10 ∷ [])))) =
    ended_text-append some (b ∷ c ∷ d ∷ e ∷ []) ∙ ap (λ ts. ended_text some ++ ts) last in
    five_grouped (a ++ 10 ∷ []) (ended_text some) (b ++ 10 ∷ []) (c ++ 10 ∷ []) (d ++ 10 ∷ []) (e ++ 10 ∷ [])
    ∙ ap (λ ts. (a ++ 10 ∷ []) ++ ts) (sym whole)
