-- How counting, cutting and sifting compute at one more operation.
use Rattle.std.proofs.Common.{◌≡◌, ℕ, ◌<◌, ◌≤◌, suc, nat_le, Bool, true, false, List, [], ◌∷◌, refl, ap, ◌∙◌, inl, inr, arith}
use Rattle.std.proofs.lemmas.Bool.{cond-true, cond-false, eq-eqb, ne_eqb, cases_eq, le-leb, leb-true, cases_Bool}
use Rattle.faust_lists.specs.Lists.{count, upto, last_to}
use Rattle.faust_lists.specs.Names.{name_of, sift}

-- an operation counts for its client alone
pub count-own : (k x : ℕ) (w : List ℕ) → x ≡ k → count k (x ∷ w) ≡ suc (count k w)
count-own k x w e = cond-true _ _ _ (eq-eqb x k e)

pub count-other : (k x : ℕ) (w : List ℕ) → (x ≡ k → ⊥) → count k (x ∷ w) ≡ count k w
count-other k x w ne = cond-false _ _ _ (ne_eqb x k ne)

pub count-le-cons : (k x : ℕ) (w : List ℕ) → count k w ≤ count k (x ∷ w)
count-le-cons k x w = elim (cases_eq x k) [
  | inl e ↦ omega (arith, count-own k x w e)
  | inr ne ↦ omega (arith, count-other k x w ne)
]

pub count-cons-le : (k x : ℕ) (w : List ℕ) → count k (x ∷ w) ≤ suc (count k w)
count-cons-le k x w = elim (cases_eq x k) [
  | inl e ↦ omega (arith, count-own k x w e)
  | inr ne ↦ omega (arith, count-other k x w ne)
]

-- the front with t operations of k
pub upto-more : (k t x : ℕ) (w : List ℕ) → t ≤ count k w → upto k t (x ∷ w) ≡ upto k t w
upto-more k t x w le = cond-true _ _ _ (le-leb _ _ le)

leb-false : (m n : ℕ) → n < m → nat_le m n ≡ false
leb-false m n lt = elim (cases_Bool (nat_le m n)) [
  | inl le ↦ let h : m ≤ n = leb-true m n le in absurd (omega arith)
  | inr fails ↦ fails
]

pub upto-here : (k t x : ℕ) (w : List ℕ) → count k w < t → upto k t (x ∷ w) ≡ x ∷ w
upto-here k t x w lt = cond-false _ _ _ (leb-false t (count k w) lt)

pub upto-none : (k : ℕ) (w : List ℕ) → upto k 0 w ≡ []
upto-none k [] = refl
upto-none k (x ∷ w) = upto-more k 0 x w (omega arith) ∙ upto-none k w

-- the front up to the last operation of k
pub last_to-own : (k : ℕ) (w : List ℕ) → last_to k (k ∷ w) ≡ k ∷ w
last_to-own k w =
    let one : count k (k ∷ w) ≡ suc (count k w) = count-own k k w refl in
    upto-here k (count k (k ∷ w)) k w (omega arith)

pub last_to-other : (k x : ℕ) (w : List ℕ) → (x ≡ k → ⊥) → last_to k (x ∷ w) ≡ last_to k w
last_to-other k x w ne =
    let same : count k (x ∷ w) ≡ count k w = count-other k x w ne in
    ap (λ (t : ℕ). upto k t (x ∷ w)) same ∙ upto-more k (count k w) x w (omega arith)

pub last_to-none : (k : ℕ) (w : List ℕ) → count k w ≡ 0 → last_to k w ≡ []
last_to-none k w none = ap (λ (t : ℕ). upto k t w) none ∙ upto-none k w

-- what a test keeps
pub sift-kept : (keep : List ℕ → Bool) (k : ℕ) (w : List ℕ) → keep (k ∷ w) ≡ true → sift keep (k ∷ w) ≡ name_of k w ∷ sift keep w
sift-kept keep k w h = cond-true _ _ _ h

pub sift-dropped : (keep : List ℕ → Bool) (k : ℕ) (w : List ℕ) → keep (k ∷ w) ≡ false → sift keep (k ∷ w) ≡ sift keep w
sift-dropped keep k w h = cond-false _ _ _ h
