-- Lists that grow at their end.
use Rattle.std.proofs.Common.{◌≡◌, ◌⊎◌, ℕ, zero, suc, ◌<◌, List, [], ◌∷◌, ◌++◌, Some, length, refl, sym, ap, ◌∙◌, inl, inr, arith}
use Rattle.std.specs.List.{slice_get}

pub nil-snoc : {X : Type 0} (l : List X) (x : X) → [] ≡ l ++ x ∷ [] → ⊥
nil-snoc [] x h = cc
nil-snoc (y ∷ l) x h = cc

cons-same : {X : Type 0} (x y : X) (l m : List X) → x ∷ l ≡ y ∷ m → (x ≡ y) × (l ≡ m)
cons-same x y l m h = (cc, cc)

pub snoc-same : {X : Type 0} (l m : List X) (x y : X) → l ++ x ∷ [] ≡ m ++ y ∷ [] → (l ≡ m) × (x ≡ y)
snoc-same [] [] x y h = (refl, (cons-same x y [] [] h).0)
snoc-same [] (z ∷ m) x y h = absurd (nil-snoc m y (cons-same x z [] (m ++ y ∷ []) h).1)
snoc-same (z ∷ l) [] x y h = absurd (nil-snoc l x (sym (cons-same z y (l ++ x ∷ []) [] h).1))
snoc-same {X} (z ∷ l) (w ∷ m) x y h =
    let parts = cons-same z w (l ++ x ∷ []) (m ++ y ∷ []) h in
    let rest = snoc-same l m x y parts.1 in
    (ap (λ (q : X). q ∷ l) parts.0 ∙ ap (λ (q : List X). w ∷ q) rest.0, rest.1)

-- what stands at a place of a list with one more item, and what doesn't stand past the end
pub at-snoc : {X : Type 0} (xs : List X) (x y : X) (k : ℕ) → slice_get (xs ++ x ∷ []) k ≡ Some y
    → (slice_get xs k ≡ Some y) ⊎ ((k ≡ length xs) × (y ≡ x))
at-snoc [] x y zero h = inr (refl, cc)
at-snoc [] x y (suc k) h = cc
at-snoc (z ∷ xs) x y zero h = inl h
at-snoc (z ∷ xs) x y (suc k) h = elim (at-snoc xs x y k h) [ inl old ↦ inl old | inr last ↦ inr (ap suc last.0, last.1) ]

pub at-left : {X : Type 0} (xs ys : List X) (y : X) (k : ℕ) → slice_get xs k ≡ Some y → slice_get (xs ++ ys) k ≡ Some y
at-left [] ys y k h = cc
at-left (z ∷ xs) ys y zero h = h
at-left (z ∷ xs) ys y (suc k) h = at-left xs ys y k h

pub at-last : {X : Type 0} (xs : List X) (x : X) → slice_get (xs ++ x ∷ []) (length xs) ≡ Some x
at-last [] x = refl
at-last (z ∷ xs) x = at-last xs x

pub within : {X : Type 0} (xs : List X) (y : X) (k : ℕ) → slice_get xs k ≡ Some y → k < length xs
within [] y k h = cc
within (z ∷ xs) y zero h = omega arith
within (z ∷ xs) y (suc k) h = let rest : k < length xs = within xs y k h in omega arith

pub record Stands {X : Type 0} (xs : List X) (k : ℕ) : Type 0 where
  pub item : X
  pub is_there : slice_get xs k ≡ Some item

pub stands : {X : Type 0} (xs : List X) (k : ℕ) → k < length xs → Stands xs k
stands [] k h = absurd (omega arith)
stands (z ∷ xs) zero h = record { item = z; is_there = refl }
stands (z ∷ xs) (suc k) h =
    let rest = stands xs k (omega arith) in record { item = rest.item; is_there = rest.is_there }

pub front-fits : {X : Type 0} (front rest front' rest' : List X) → front ++ rest ≡ front' ++ rest' → length front ≡ length front'
    → front ≡ front'
front-fits [] rest [] rest' h same = refl
front-fits [] rest (y ∷ front') rest' h same = absurd (omega arith)
front-fits (x ∷ front) rest [] rest' h same = absurd (omega arith)
front-fits {X} (x ∷ front) rest (y ∷ front') rest' h same =
    let parts = cons-same x y (front ++ rest) (front' ++ rest') h in
    ap (λ (q : X). q ∷ front) parts.0 ∙ ap (λ (q : List X). y ∷ q) (front-fits front rest front' rest' parts.1 (omega arith))
