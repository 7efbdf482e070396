-- The front of a history up to an operation of a client.
use Rattle.std.proofs.Common.{◌≡◌, ℕ, ◌≤◌, suc, List, [], ◌∷◌, refl, sym, ap, ◌∙◌, subst, inl, inr, arith}
use Rattle.std.proofs.lemmas.Bool.{cases_eq, cases_lt}
use Rattle.faust_lists.specs.Lists.{count, upto, last_to, EndsWith, IsTail}
use Rattle.faust_lists.proofs.Counts.{count-own, count-other, count-cons-le, upto-more, upto-here}
use Rattle.faust_lists.proofs.Tails.{tail-refl, count-tail}

pub upto-tail : (k t : ℕ) (w : List ℕ) → IsTail (upto k t w) w
upto-tail k t [] = refl
upto-tail k t (x ∷ w) = elim (cases_lt (count k w) t) [
  | inl lt ↦ inl (upto-here k t x w lt)
  | inr le ↦ subst (λ (z : List ℕ). IsTail z (x ∷ w)) (sym (upto-more k t x w le)) (inr (upto-tail k t w))
]

-- it counts t operations of k, and ends with one
pub count-upto : (k t : ℕ) (w : List ℕ) → t ≤ count k w → count k (upto k t w) ≡ t
count-upto k t [] le = omega arith
count-upto k t (x ∷ w) le = elim (cases_lt (count k w) t) [
  | inl lt ↦ omega (arith, ap (λ (z : List ℕ). count k z) (upto-here k t x w lt), count-cons-le k x w)
  | inr more ↦ ap (λ (z : List ℕ). count k z) (upto-more k t x w more) ∙ count-upto k t w more
]

pub upto-ends : (k t : ℕ) (w : List ℕ) → 1 ≤ t → t ≤ count k w → EndsWith k (upto k t w)
upto-ends k t [] one le = absurd (omega arith)
upto-ends k t (x ∷ w) one le = elim (cases_lt (count k w) t) [
  | inl lt ↦ elim (cases_eq x k) [
    | inl e ↦ subst (λ (z : List ℕ). EndsWith k z) (sym (upto-here k t x w lt)) e
    | inr ne ↦ absurd (omega (arith, count-other k x w ne))
  ]
  | inr more ↦ subst (λ (z : List ℕ). EndsWith k z) (sym (upto-more k t x w more)) (upto-ends k t w one more)
]

-- it is the same in each front that has as many
pub upto-stable : (k t : ℕ) (u w : List ℕ) → IsTail u w → t ≤ count k u → upto k t w ≡ upto k t u
upto-stable k t u [] h le = ap (λ (z : List ℕ). upto k t z) (sym h)
upto-stable k t u (x ∷ w) (inl same) le = ap (λ (z : List ℕ). upto k t z) (sym same)
upto-stable k t u (x ∷ w) (inr h) le =
    upto-more k t x w (omega (arith, count-tail k u w h)) ∙ upto-stable k t u w h le

-- a front that ends with k is the one up to that operation
pub upto-own : (k : ℕ) (u w : List ℕ) → IsTail (k ∷ u) w → upto k (suc (count k u)) w ≡ k ∷ u
upto-own k u w h =
    let one : count k (k ∷ u) ≡ suc (count k u) = count-own k k u refl in
    upto-stable k (suc (count k u)) (k ∷ u) w h (omega arith) ∙ upto-here k (suc (count k u)) k u (omega arith)

pub upto-ended : (k : ℕ) (u w : List ℕ) → EndsWith k u → IsTail u w → upto k (count k u) w ≡ u
upto-ended k [] w ends h = absurd ends
upto-ended k (x ∷ u) w ends h =
    subst (λ (z : ℕ). upto k (count k (z ∷ u)) w ≡ z ∷ u) (sym ends)
    (let one : count k (k ∷ u) ≡ suc (count k u) = count-own k k u refl in
    ap (λ (t : ℕ). upto k t w) one
    ∙ upto-own k u w (subst (λ (z : ℕ). IsTail (z ∷ u) w) ends h))

-- what a front has reached, the history up to it is a front of
pub upto-reached : (k t : ℕ) (u w : List ℕ) → IsTail u w → t ≤ count k u → IsTail (upto k t w) u
upto-reached k t u w h le = subst (λ (z : List ℕ). IsTail z u) (sym (upto-stable k t u w h le)) (upto-tail k t u)

-- an earlier operation of k within the front up to a later one
pub upto-upto : (k s t : ℕ) (w : List ℕ) → s ≤ t → t ≤ count k w → upto k s (upto k t w) ≡ upto k s w
upto-upto k s t w st le =
    sym (upto-stable k s (upto k t w) w (upto-tail k t w) (omega (arith, count-upto k t w le)))

pub upto-grows : (k s t : ℕ) (w : List ℕ) → s ≤ t → t ≤ count k w → IsTail (upto k s w) (upto k t w)
upto-grows k s t w st le =
    subst (λ (z : List ℕ). IsTail z (upto k t w)) (upto-upto k s t w st le) (upto-tail k s (upto k t w))

-- the front up to the last operation of k
pub last_to-tail : (k : ℕ) (w : List ℕ) → IsTail (last_to k w) w
last_to-tail k w = upto-tail k (count k w) w

pub count-last_to : (k : ℕ) (w : List ℕ) → count k (last_to k w) ≡ count k w
count-last_to k w = count-upto k (count k w) w (omega arith)

pub last_to-ends : (k : ℕ) (w : List ℕ) → 1 ≤ count k w → EndsWith k (last_to k w)
last_to-ends k w some = upto-ends k (count k w) w some (omega arith)

pub last_to-same : (k : ℕ) (u w : List ℕ) → IsTail u w → count k u ≡ count k w → last_to k u ≡ last_to k w
last_to-same k u w h same =
    ap (λ (t : ℕ). upto k t u) same ∙ sym (upto-stable k (count k w) u w h (omega arith))

pub last_to-ended : (k : ℕ) (w : List ℕ) → EndsWith k w → last_to k w ≡ w
last_to-ended k w ends = upto-ended k w w ends (tail-refl w)
