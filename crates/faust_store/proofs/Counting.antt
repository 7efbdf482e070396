-- The number of a line, by its digits.
use Rattle.std.proofs.Common.{◌≡◌, ℕ, ◌^◌, ◌<◌, false, eqb, List, Some, None, sym, ap, ◌∙◌, inl, inr}
use Rattle.std.specs.Fmt.{decimal}
use Rattle.std.specs.Str.{bytes_eq}
use Rattle.std.proofs.lemmas.Bool.{cases_eq, eq-eqb, false_from_ne_true, ne_eqb}
use Rattle.std.proofs.lemmas.Slice.Eq.{bytes_eq-Decides}
use Rattle.faust_text.specs.Numbers.{number_of}
use Rattle.faust_text.proofs.FieldLaws.{some_same}
use Rattle.faust_text.proofs.NumberLaws.{number_of-decimal, numbers_are}
use Rattle.faust_store.specs.Reading.{is_number_of}

other_token : (token : List ℕ) (count : ℕ) → count < 2 ^ 64 → (number_of token ≡ Some count → ⊥) → bytes_eq token (decimal count) ≡ false
other_token token count fits other =
    false_from_ne_true (bytes_eq token (decimal count))
    (λ same. other (ap number_of ((bytes_eq-Decides token (decimal count)).0 same) ∙ number_of-decimal count fits))

pub number_same : (token : List ℕ) (x count : ℕ) → count < 2 ^ 64 → number_of token ≡ Some x → eqb x count ≡ is_number_of count token
number_same token x count fits found =
    elim (cases_eq x count) [
      | inl same ↦ eq-eqb x count same
          ∙ sym ((bytes_eq-Decides token (decimal count)).1 (((numbers_are token x).0 found).1 ∙ ap decimal same))
      | inr other ↦ ne_eqb x count other
          ∙ sym (other_token token count fits (λ is. other (some_same x count (sym found ∙ is))))
    ]

pub number_none : (token : List ℕ) (count : ℕ) → count < 2 ^ 64 → number_of token ≡ None → false ≡ is_number_of count token
number_none token count fits none = sym (other_token token count fits (λ is. absurd (let e = sym none ∙ is in cc)))
