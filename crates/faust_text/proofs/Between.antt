-- Numbers from one number to another.
use Rattle.std.proofs.Common.{◌≡◌, ℕ, ◌≤◌, true, leb, ◌&&◌, Option, Some, None, refl, subst, inl, inr}
use Rattle.std.proofs.lemmas.Bool.{cond-true, and_parts, and_from, leb-true, le-leb}
use Rattle.faust_text.specs.Numbers.{between}
use Rattle.faust_text.proofs.Choices.{chosen}

pub record IsBetween (low high : ℕ) (o : Option ℕ) (x : ℕ) : Type 0 where
  pub given : o ≡ Some x
  pub from : low ≤ x
  pub to : x ≤ high

pub between_parts : (low high : ℕ) (o : Option ℕ) (x : ℕ) → between low high o ≡ Some x → IsBetween low high o x
between_parts low high None x found = absurd (cc)
between_parts low high (Some y) x found =
    elim (chosen (leb low y && leb y high) (Some y) None (Some x) found) [
      | inl taken ↦
          let parts : (leb low y ≡ true) × (leb y high ≡ true) = and_parts _ _ taken.0 in
          let same : y ≡ x = let e = taken.1 in cc in
          subst (λ z. IsBetween low high (Some y) z) same (record { given = refl; from = leb-true _ _ parts.0; to = leb-true _ _ parts.1 })
      | inr left ↦ absurd (let e = left.1 in cc)
    ]

pub between_from : (low high x : ℕ) → low ≤ x → x ≤ high → between low high (Some x) ≡ Some x
between_from low high x from to =
    cond-true (leb low x && leb x high) (Some x) None (and_from _ _ (le-leb _ _ from) (le-leb _ _ to))
