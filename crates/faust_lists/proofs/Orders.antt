-- The order of the items of a list in which none stands twice.
use Rattle.std.proofs.Common.{◌≡◌, ℕ, ◌⊎◌, Bool, true, List, [], ◌∷◌, refl, sym, ◌∙◌, subst, inl, inr}
use Rattle.faust_types.specs.declared.operation.OpName.{OpName}
use Rattle.faust_lists.specs.Lists.{IsTail}
use Rattle.faust_lists.specs.Names.{name_of, sift, Has, AreDistinct, Before}
use Rattle.faust_lists.proofs.Counts.{sift-kept}
use Rattle.faust_lists.proofs.Sifted.{has-tail, sift-tail, distinct-sift}

-- both stand in the list
pub before-has : {X : Type 0} (l : List X) (a b : X) → Before l a b → Has l a × Has l b
before-has [] a b h = absurd h
before-has (x ∷ l) a b (inl h) = (inr h.1, inl h.0)
before-has (x ∷ l) a b (inr h) = let both = before-has l a b h in (inr both.0, inr both.1)

pub before-tail : {X : Type 0} (l m : List X) (a b : X) → IsTail l m → Before l a b → Before m a b
before-tail {X} l [] a b h before = subst (λ (z : List X). Before z a b) h before
before-tail {X} l (x ∷ m) a b (inl same) before = subst (λ (z : List X). Before z a b) same before
before-tail l (x ∷ m) a b (inr h) before = inr (before-tail l m a b h before)

pub distinct-tail : {X : Type 0} (l m : List X) → IsTail l m → AreDistinct m → AreDistinct l
distinct-tail {X} l [] h distinct = subst (λ (z : List X). AreDistinct z) (sym h) tt
distinct-tail {X} l (x ∷ m) (inl same) distinct = subst (λ (z : List X). AreDistinct z) (sym same) distinct
distinct-tail l (x ∷ m) (inr h) distinct = distinct-tail l m h distinct.1

-- nothing stands before itself, nor two before each other
pub before-irreflexive : {X : Type 0} (l : List X) (a : X) → AreDistinct l → Before l a a → ⊥
before-irreflexive [] a distinct h = h
before-irreflexive {X} (x ∷ l) a distinct (inl h) = distinct.0 (subst (λ (z : X). Has l z) h.0 h.1)
before-irreflexive (x ∷ l) a distinct (inr h) = before-irreflexive l a distinct.1 h

pub before-trans : {X : Type 0} (l : List X) (a b c : X) → AreDistinct l → Before l a b → Before l b c → Before l a c
before-trans [] a b c distinct h i = absurd h
before-trans {X} (x ∷ l) a b c distinct (inl h) (inl i) = absurd (distinct.0 (subst (λ (z : X). Has l z) h.0 i.1))
before-trans {X} (x ∷ l) a b c distinct (inl h) (inr i) =
    absurd (distinct.0 (subst (λ (z : X). Has l z) h.0 (before-has l b c i).0))
before-trans (x ∷ l) a b c distinct (inr h) (inl i) = inl (i.0, (before-has l a b h).0)
before-trans (x ∷ l) a b c distinct (inr h) (inr i) = inr (before-trans l a b c distinct.1 h i)

pub before-asymmetric : {X : Type 0} (l : List X) (a b : X) → AreDistinct l → Before l a b → Before l b a → ⊥
before-asymmetric l a b distinct h i = before-irreflexive l a distinct (before-trans l a b a distinct h i)

either-more : {X : Type 0} (x : X) (l : List X) (a b : X) → Before l a b ⊎ Before l b a → Before (x ∷ l) a b ⊎ Before (x ∷ l) b a
either-more x l a b (inl h) = inl (inr h)
either-more x l a b (inr h) = inr (inr h)

-- of two items one stands before the other
pub before-either : {X : Type 0} (l : List X) (a b : X) → Has l a → Has l b → (a ≡ b → ⊥) → Before l a b ⊎ Before l b a
before-either [] a b h i ne = absurd h
before-either (x ∷ l) a b (inl h) (inl i) ne = absurd (ne (h ∙ sym i))
before-either (x ∷ l) a b (inl h) (inr i) ne = inr (inl (h, i))
before-either (x ∷ l) a b (inr h) (inl i) ne = inl (inl (i, h))
before-either (x ∷ l) a b (inr h) (inr i) ne = either-more x l a b (before-either l a b h i ne)

first-of : {X : Type 0} (b : X) (r : List X) (a : X) → AreDistinct (b ∷ r) → Before (b ∷ r) a b → Has r a
first-of b r a distinct (inl h) = h.1
first-of b r a distinct (inr h) = absurd (distinct.0 (before-has r a b h).1)

-- what stands before an item is what the front that ends with it has besides
pub before-front : {X : Type 0} (b : X) (r l : List X) (a : X) → AreDistinct l → IsTail (b ∷ r) l → Before l a b → Has r a
before-front b r [] a distinct h before = absurd before
before-front {X} b r (x ∷ l) a distinct (inl same) before =
    first-of b r a (subst (λ (z : List X). AreDistinct z) (sym same) distinct) (subst (λ (z : List X). Before z a b) (sym same) before)
before-front {X} b r (x ∷ l) a distinct (inr h) (inl before) =
    absurd (distinct.0 (subst (λ (z : X). Has l z) before.0 (has-tail (b ∷ r) l b h (inl refl))))
before-front b r (x ∷ l) a distinct (inr h) (inr before) = before-front b r l a distinct.1 h before

-- of kept names: those before the name of an operation are those that are kept of the history before it
pub before-sift : (keep : List ℕ → Bool) (m : ℕ) (u w : List ℕ) (a : OpName) → keep (m ∷ u) ≡ true → IsTail (m ∷ u) w
    → Before (sift keep w) a (name_of m u) → Has (sift keep u) a
before-sift keep m u w a holds h before =
    let front : IsTail (name_of m u ∷ sift keep u) (sift keep w) =
    subst (λ (z : List OpName). IsTail z (sift keep w)) (sift-kept keep m u holds) (sift-tail keep (m ∷ u) w h) in
    before-front (name_of m u) (sift keep u) (sift keep w) a (distinct-sift keep w) front before

pub sift-before : (keep : List ℕ → Bool) (m : ℕ) (u w : List ℕ) (a : OpName) → keep (m ∷ u) ≡ true → IsTail (m ∷ u) w
    → Has (sift keep u) a → Before (sift keep w) a (name_of m u)
sift-before keep m u w a holds h has =
    let front : IsTail (name_of m u ∷ sift keep u) (sift keep w) =
    subst (λ (z : List OpName). IsTail z (sift keep w)) (sift-kept keep m u holds) (sift-tail keep (m ∷ u) w h) in
    before-tail (name_of m u ∷ sift keep u) (sift keep w) a (name_of m u) front (inl (refl, has))
