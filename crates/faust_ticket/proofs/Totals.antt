-- Sums over the holders, and what one holder says of them.
use Rattle.std.proofs.Common.{◌≡◌, ℕ, zero, suc, ◌+◌, ◌≤◌, List, [], ◌∷◌, ◌++◌, set, sym, refl, ap, arith}
use mathlib.Core.Option.{some, some-injective, some-ne-none}
use lib.ListN.{get_elem?}
use Rattle.faust_ticket.specs.Rule.{Holder, total}

module _ (f : Holder → ℕ) where
  -- where one holder changes, the sum changes as it does
  pub total-set : (vs : List Holder) (k : ℕ) (v u : Holder) → get_elem? vs k ≡ some v → total f (set vs k u) + f v ≡ total f vs + f u
  total-set [] k v u e = absurd (some-ne-none v (sym e))
  total-set (x ∷ xs) zero v u e = let is : f x ≡ f v = ap f (some-injective x v e) in omega arith
  total-set (x ∷ xs) (suc k) v u e = let r = total-set xs k v u e in omega arith

  pub total-push : (vs : List Holder) (v : Holder) → total f (vs ++ v ∷ []) ≡ total f vs + f v
  total-push [] v = omega arith
  total-push (x ∷ xs) v = let r = total-push xs v in omega arith

  pub at_most : (vs : List Holder) (k : ℕ) (v : Holder) → get_elem? vs k ≡ some v → f v ≤ total f vs
  at_most [] k v e = absurd (some-ne-none v (sym e))
  at_most (x ∷ xs) zero v e = let is : f x ≡ f v = ap f (some-injective x v e) in omega arith
  at_most (x ∷ xs) (suc k) v e = let r = at_most xs k v e in omega arith

  module _ (g : Holder → ℕ) (none : (h : Holder) → g h ≡ 0 → f h ≡ 0) where
    nothing : (vs : List Holder) → total g vs ≡ 0 → total f vs ≡ 0
    nothing [] e = refl
    nothing (x ∷ xs) e = let a = none x (omega arith) in let r = nothing xs (omega arith) in omega arith

-- where one holder has all of g, and who has nothing of g has nothing of f, it has all of f
pub alone : (f g : Holder → ℕ) → ((h : Holder) → g h ≡ 0 → f h ≡ 0) → (vs : List Holder) (k : ℕ) (v : Holder)
    → get_elem? vs k ≡ some v → total g vs ≡ g v → total f vs ≡ f v
alone f g none [] k v e whole = absurd (some-ne-none v (sym e))
alone f g none (x ∷ xs) zero v e whole =
    let same_f : f x ≡ f v = ap f (some-injective x v e) in
    let same_g : g x ≡ g v = ap g (some-injective x v e) in
    let rest = nothing f g none xs (omega arith) in
    omega arith
alone f g none (x ∷ xs) (suc k) v e whole =
    let here = at_most g xs k v e in
    let empty = none x (omega arith) in
    let r = alone f g none xs k v e (omega arith) in
    omega arith

pub total-add : (f g : Holder → ℕ) (vs : List Holder) → total (λ h. f h + g h) vs ≡ total f vs + total g vs
total-add f g [] = refl
total-add f g (x ∷ xs) = let r = total-add f g xs in omega arith
