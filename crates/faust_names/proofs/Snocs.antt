-- Lists that have the first one first and grow at their end: what stands in them, in which order, and their fronts.
use Rattle.std.proofs.Common.{◌≡◌, ◌⊎◌, List, [], ◌∷◌, ◌++◌, refl, sym, ap, ◌∙◌, inl, inr}
use Rattle.faust_lists.specs.Names.{Has}
use Rattle.faust_forks.proofs.Members.{has-left, has-right}
use Rattle.faust_names.specs.Views.{IsBefore, IsPrefix}

pub has-snoc : {X : Type 0} (l : List X) (x a : X) → Has (l ++ x ∷ []) a → Has l a ⊎ (a ≡ x)
has-snoc [] x a (inl same) = inr same
has-snoc [] x a (inr has) = absurd has
has-snoc (y ∷ l) x a (inl same) = inl (inl same)
has-snoc (y ∷ l) x a (inr has) = elim (has-snoc l x a has) [ inl old ↦ inl (inr old) | inr last ↦ inr last ]

-- the last one stands behind all others, and these stand as before
pub before-snoc : {X : Type 0} (l : List X) (x a b : X) → IsBefore (l ++ x ∷ []) a b → IsBefore l a b ⊎ ((b ≡ x) × Has l a)
before-snoc [] x a b (inl h) = absurd h.1
before-snoc [] x a b (inr h) = absurd h
before-snoc (y ∷ l) x a b (inl h) = elim (has-snoc l x b h.1) [ inl old ↦ inl (inl (h.0, old)) | inr last ↦ inr (last, inl h.0) ]
before-snoc (y ∷ l) x a b (inr h) = elim (before-snoc l x a b h) [ inl old ↦ inl (inr old) | inr last ↦ inr (last.0, inr last.1) ]

pub before-left : {X : Type 0} (l m : List X) (a b : X) → IsBefore l a b → IsBefore (l ++ m) a b
before-left [] m a b h = absurd h
before-left (y ∷ l) m a b (inl h) = inl (h.0, has-left l m b h.1)
before-left (y ∷ l) m a b (inr h) = inr (before-left l m a b h)

pub before-last : {X : Type 0} (l : List X) (x a : X) → Has l a → IsBefore (l ++ x ∷ []) a x
before-last [] x a has = absurd has
before-last (y ∷ l) x a (inl same) = inl (same, has-right l (x ∷ []) x (inl refl))
before-last (y ∷ l) x a (inr has) = inr (before-last l x a has)

-- fronts
pub prefix-refl : {X : Type 0} (l : List X) → IsPrefix l l
prefix-refl [] = tt
prefix-refl (x ∷ l) = (refl, prefix-refl l)

pub prefix-left : {X : Type 0} (l m : List X) → IsPrefix l (l ++ m)
prefix-left [] m = tt
prefix-left (x ∷ l) m = (refl, prefix-left l m)

pub prefix-trans : {X : Type 0} (p q l : List X) → IsPrefix p q → IsPrefix q l → IsPrefix p l
prefix-trans [] q l h i = tt
prefix-trans (x ∷ p) [] l h i = absurd h
prefix-trans (x ∷ p) (y ∷ q) [] h i = absurd i
prefix-trans (x ∷ p) (y ∷ q) (z ∷ l) h i = (h.0 ∙ i.0, prefix-trans p q l h.1 i.1)

pub prefix-nil : {X : Type 0} (p : List X) → IsPrefix p [] → p ≡ []
prefix-nil [] h = refl
prefix-nil (x ∷ p) h = absurd h

-- a front is the whole, or one of what stood before
pub prefix-snoc : {X : Type 0} (p l : List X) (x : X) → IsPrefix p (l ++ x ∷ []) → IsPrefix p l ⊎ (p ≡ l ++ x ∷ [])
prefix-snoc [] l x h = inl tt
prefix-snoc {X} (y ∷ p) [] x h = inr (ap (λ (z : X). z ∷ p) h.0 ∙ ap (λ (z : List X). x ∷ z) (prefix-nil p h.1))
prefix-snoc {X} (y ∷ p) (z ∷ l) x h = elim (prefix-snoc p l x h.1) [
  | inl old ↦ inl (h.0, old)
  | inr whole ↦ inr (ap (λ (q : X). q ∷ p) h.0 ∙ ap (λ (q : List X). z ∷ q) whole)
]

pub nil-snoc : {X : Type 0} (l : List X) (x : X) → [] ≡ l ++ x ∷ [] → ⊥
nil-snoc [] x h = cc
nil-snoc (y ∷ l) x h = cc

cons-same : {X : Type 0} (x y : X) (l m : List X) → x ∷ l ≡ y ∷ m → (x ≡ y) × (l ≡ m)
cons-same x y l m h = (cc, cc)

pub snoc-same : {X : Type 0} (l m : List X) (x y : X) → l ++ x ∷ [] ≡ m ++ y ∷ [] → (l ≡ m) × (x ≡ y)
snoc-same [] [] x y h = (refl, (cons-same x y [] [] h).0)
snoc-same [] (z ∷ m) x y h = absurd (nil-snoc m y (cons-same x z [] (m ++ y ∷ []) h).1)
snoc-same (z ∷ l) [] x y h = absurd (nil-snoc l x (sym (cons-same z y (l ++ x ∷ []) [] h).1))
snoc-same {X} (z ∷ l) (w ∷ m) x y h =
    let parts = cons-same z w (l ++ x ∷ []) (m ++ y ∷ []) h in
    let rest = snoc-same l m x y parts.1 in
    (ap (λ (q : X). q ∷ l) parts.0 ∙ ap (λ (q : List X). w ∷ q) rest.0, rest.1)
