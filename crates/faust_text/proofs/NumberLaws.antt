-- Numbers digit by digit.
use Rattle.std.proofs.Common.{◌≡◌, ℕ, ◌+◌, ◌-◌, ◌*◌, ◌^◌, ◌/◌, ◌%◌, ◌<◌, ◌≤◌, zero, suc, true, false, cond, eqb, ltb, ◌&&◌, List, [], ◌∷◌, ◌++◌, length, get_or, set, take, drop, Some, None, add-one, append_assoc, sym, ap, ◌∙◌, subst, lit≤, ◌↔◌, inl, inr, arith, rules}
use Rattle.std.proofs.lemmas.List.{drop-set, nil_from_length}
use Rattle.std.proofs.lemmas.Grind.{pow_more}
use Rattle.std.proofs.lemmas.List.Folds.{list_all_at}
use Rattle.std.proofs.lemmas.Int.Digits.{digits_value_more}
use Rattle.std.proofs.lemmas.Str.Parse.{digits_value-take-le, IsNumeralModel, numerals_by_value}
use Rattle.std.proofs.lemmas.Fmt.{decimal_step, decimal_digit, first_decimal, digits_decimal, digits_value-decimal, decimal-digits_value}
use Rattle.std.proofs.lemmas.Bool.{cond-true, cond-false, cases_Bool, eqb-true, ltb-true, lt-ltb, le-ltb, and_parts, both_ways, false≢true, eqb-false, ne_eqb}
use Rattle.std.proofs.lemmas.Bool.Decides.{nat_tests}
use Rattle.std.specs.Char.{is_ascii_digit, digit_value}
use Rattle.std.specs.Fmt.{decimal}
use Rattle.std.specs.List.{list_all}
use Rattle.faust_text.specs.Numbers.{is_number, worth, number_of}

pub number_of-fits : (token : List ℕ) → is_number token ≡ true → worth token < 2 ^ 64 → number_of token ≡ Some (worth token)
number_of-fits token is fits = ap (λ t. cond (t && ltb (worth token) (2 ^ 64)) (Some (worth token)) None) is
    ∙ cond-true (ltb (worth token) (2 ^ 64)) _ _ (lt-ltb _ _ fits)

pub number_of-no : (token : List ℕ) → is_number token ≡ false → number_of token ≡ None
number_of-no token is = ap (λ t. cond (t && ltb (worth token) (2 ^ 64)) (Some (worth token)) None) is

pub number_of-beyond : (token : List ℕ) (i : ℕ) → is_number token ≡ true → 2 ^ 64 ≤ worth (take i token) → number_of token ≡ None
number_of-beyond token i is beyond =
    ap (λ t. cond (t && ltb (worth token) (2 ^ 64)) (Some (worth token)) None) is
    ∙ cond-false (ltb (worth token) (2 ^ 64)) (Some (worth token)) None
    (le-ltb _ _ (omega (arith, beyond, digits_value-take-le 10 token i (lit≤ tt))))

-- A number has a digit at each place.
pub digits_at : (token : List ℕ) (i : ℕ) → is_number token ≡ true → i < length token → (48 ≤ get_or token i 0) × (get_or token i 0 ≤ 57)
digits_at [] i is below = absurd (omega arith)
digits_at (d ∷ ds) i is below =
    elim (cases_Bool (eqb d 48)) [
      | inl nought ↦
          let one : eqb (suc (length ds)) 1 ≡ true =
          sym (cond-true (eqb d 48) (eqb (suc (length ds)) 1) (list_all is_ascii_digit (d ∷ ds)) nought) ∙ is in
          let first : i ≡ 0 = grind (arith, nat_tests) in
          let at : get_or (d ∷ ds) i 0 ≡ d = ap (λ k. get_or (d ∷ ds) k 0) first in
          let value : d ≡ 48 = eqb-true d 48 nought in
          (omega arith, omega arith)
      | inr other ↦
          let all : list_all is_ascii_digit (d ∷ ds) ≡ true =
          sym (cond-false (eqb d 48) (eqb (suc (length ds)) 1) (list_all is_ascii_digit (d ∷ ds)) other) ∙ is in
          let here : is_ascii_digit (get_or (d ∷ ds) i 0) ≡ true =
          elim (cases_Bool (is_ascii_digit (get_or (d ∷ ds) i 0))) [
            | inl digit ↦ digit
            | inr other ↦
                absurd (both_ways _ (list_all_at is_ascii_digit (d ∷ ds) i 0 below other) all)
          ] in
          grind (arith, nat_tests)
    ]

digit_value-digit : (c : ℕ) → 48 ≤ c → c ≤ 57 → digit_value c ≡ c - 48
digit_value-digit c low high = grind (arith, nat_tests)

pub worth-more : (token : List ℕ) (i : ℕ) → is_number token ≡ true → i < length token
    → worth (take (i + 1) token) ≡ worth (take i token) * 10 + (get_or token i 0 - 48)
worth-more token i is below =
    let d = digits_at token i is below in
    digits_value_more 10 token i below ∙ ap (λ n. worth (take i token) * 10 + n) (digit_value-digit (get_or token i 0) d.0 d.1)

-- The last digit of a number stands before those that were put already.
pub digit_put : (digits : List ℕ) (at n x : ℕ) → 1 ≤ at → at ≤ length digits → 10 ≤ n → n < 2 ^ 64
    → decimal n ++ drop at digits ≡ decimal x → decimal (n / 10) ++ drop (at - 1) (set digits (at - 1) (48 + n % 10)) ≡ decimal x
digit_put digits at n x some within more small so_far =
    let same : at - 1 + 1 ≡ at = omega arith in
    let below : at - 1 < length digits = omega arith in
    let put : drop (at - 1) (set digits (at - 1) (48 + n % 10)) ≡ (48 + n % 10) ∷ drop at digits =
    drop-set digits (at - 1) (48 + n % 10) below ∙ ap (λ k. (48 + n % 10) ∷ drop k digits) same in
    ap (λ ds. decimal (n / 10) ++ ds) put
    ∙ (sym (append_assoc (decimal (n / 10)) ((48 + n % 10) ∷ []) (drop at digits))
    ∙ (ap (λ ds. ds ++ drop at digits) (sym (decimal_step n more small)) ∙ so_far))

pub first_digit_put : (digits : List ℕ) (at n x : ℕ) → 1 ≤ at → at ≤ length digits → n < 10 → decimal n ++ drop at digits ≡ decimal x
    → drop (at - 1) (set digits (at - 1) (48 + n)) ≡ decimal x
first_digit_put digits at n x some within one so_far =
    let same : at - 1 + 1 ≡ at = omega arith in
    let below : at - 1 < length digits = omega arith in
    let put : drop (at - 1) (set digits (at - 1) (48 + n)) ≡ (48 + n) ∷ drop at digits =
    drop-set digits (at - 1) (48 + n) below ∙ ap (λ k. (48 + n) ∷ drop k digits) same in
    put ∙ (ap (λ ds. ds ++ drop at digits) (sym (decimal_digit n one)) ∙ so_far)

pub room_left : (n at : ℕ) → 10 ≤ n → n < 10 ^ at → (2 ≤ at) × (n / 10 < 10 ^ (at - 1))
room_left n zero more fits = absurd (omega arith)
room_left n (suc zero) more fits = absurd (omega arith)
room_left n (suc (suc at)) more fits =
    let step : 10 ^ suc (suc at) ≡ 10 ^ suc at * 10 = ap (λ k. 10 ^ k) (sym (add-one (suc at))) ∙ pow_more 10 (suc at) in
    let same : suc (suc at) - 1 ≡ suc at = omega arith in
    (omega arith, subst (λ (k : ℕ). n / 10 < 10 ^ k) (sym same) (omega arith))

-- Numbers and their digits.
own : IsNumeralModel (λ ds. list_all is_ascii_digit ds ≡ true) worth
own = numerals_by_value _ (search rules)

by_first : (token : List ℕ) → 48 < get_or token 0 0 → list_all is_ascii_digit token ≡ true → is_number token ≡ true
by_first [] first digits = absurd (omega arith)
by_first (d ∷ ds) first digits = cond-false (eqb d 48) _ _ (ne_eqb d 48 (λ e. omega arith)) ∙ digits

pub is_number-decimal : (x : ℕ) → x < 2 ^ 64 → is_number (decimal x) ≡ true
is_number-decimal zero small = ap is_number (decimal_digit 0 (omega arith))
is_number-decimal (suc x) small =
    let first = first_decimal (suc x) (omega arith) small in
    let digits = digits_decimal own (suc x) small in
    by_first (decimal (suc x)) first digits

pub number_of-decimal : (x : ℕ) → x < 2 ^ 64 → number_of (decimal x) ≡ Some x
number_of-decimal x small =
    let same = digits_value-decimal own x small in
    number_of-fits (decimal x) (is_number-decimal x small) (omega arith) ∙ ap Some same

decimal-worth : (token : List ℕ) → is_number token ≡ true → worth token < 2 ^ 64 → token ≡ decimal (worth token)
decimal-worth [] is small = absurd (false≢true is)
decimal-worth (d ∷ ds) is small =
    elim (cases_Bool (eqb d 48)) [
      | inl nought ↦
          let one = eqb-true (suc (length ds)) 1 (sym (cond-true (eqb d 48) _ (list_all is_ascii_digit (d ∷ ds)) nought) ∙ is) in
          let none : ds ≡ [] = nil_from_length ds (omega arith) in
          let first : d ≡ 48 = eqb-true d 48 nought in
          let token : d ∷ ds ≡ 48 ∷ [] = ap (λ x. x ∷ ds) first ∙ ap (λ xs. 48 ∷ xs) none in
          token ∙ (sym (decimal_digit 0 (omega arith)) ∙ ap (λ t. decimal (worth t)) (sym token))
      | inr other ↦
          let digits : list_all is_ascii_digit (d ∷ ds) ≡ true = sym (cond-false (eqb d 48) (eqb (suc (length ds)) 1) _ other) ∙ is in
          sym (decimal-digits_value own (d ∷ ds) digits (omega arith) (λ e. absurd (eqb-false d 48 other e)) small)
    ]

pub numbers_are : (token : List ℕ) (x : ℕ) → (number_of token ≡ Some x) ↔ ((x < 2 ^ 64) × (token ≡ decimal x))
numbers_are token x = (
  λ found. elim (cases_Bool (is_number token && ltb (worth token) (2 ^ 64))) [
    | inl fits ↦
        let parts = and_parts _ _ fits in
        let same : worth token ≡ x = let e =
        sym (cond-true (is_number token && ltb (worth token) (2 ^ 64)) (Some (worth token)) None fits) ∙ found in cc in
        let small = ltb-true _ _ parts.1 in
        (omega arith, decimal-worth token parts.0 small ∙ ap decimal same)
    | inr not_so ↦ absurd (let e = sym (cond-false (is_number token && ltb (worth token) (2 ^ 64)) (Some (worth token)) None not_so)
        ∙ found in cc)
  ],
  λ is. ap number_of is.1 ∙ number_of-decimal x is.0,
)
