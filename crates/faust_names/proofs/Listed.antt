-- The names that a test keeps of a fork, the first one first: which they are, in which order, and their fronts.
use Rattle.std.proofs.Common.{◌≡◌, ◌⊎◌, ℕ, suc, Bool, true, false, List, [], ◌∷◌, ◌++◌, refl, sym, subst, inl, inr}
use Rattle.std.proofs.lemmas.Bool.{cond-true, cond-false, cases_Bool}
use Rattle.faust_types.specs.declared.operation.OpName.{OpName}
use Rattle.faust_lists.specs.Lists.{count, IsTail}
use Rattle.faust_lists.specs.Names.{name_of, sift, Before, Has, IsKept}
use Rattle.faust_lists.proofs.Counts.{sift-kept, sift-dropped}
use Rattle.faust_lists.proofs.Sifted.{has-kept, has-tail, kept-has, name-same, sift-tail}
use Rattle.faust_lists.proofs.Orders.{before-sift, sift-before}
use Rattle.faust_forks.proofs.Members.{has-left, has-right}
use Rattle.faust_names.specs.Views.{IsBefore, IsPrefix}
use Rattle.faust_names.specs.ForkViews.{listed}
use Rattle.faust_names.proofs.Snocs.{before-last, before-left, before-snoc, has-snoc, nil-snoc, prefix-left}
use Rattle.faust_names.proofs.Snocs.{prefix-nil, prefix-refl, prefix-snoc, prefix-trans, snoc-same}

pub listed-kept : (keep : List ℕ → Bool) (k : ℕ) (w : List ℕ) → keep (k ∷ w) ≡ true
    → listed keep (k ∷ w) ≡ listed keep w ++ name_of k w ∷ []
listed-kept keep k w h = cond-true _ _ _ h

pub listed-dropped : (keep : List ℕ → Bool) (k : ℕ) (w : List ℕ) → keep (k ∷ w) ≡ false → listed keep (k ∷ w) ≡ listed keep w
listed-dropped keep k w h = cond-false _ _ _ h

-- the same names as with the last one first
first-or : (l m : List OpName) (x a : OpName) → (Has l a → Has m a) → Has l a ⊎ (a ≡ x) → Has (x ∷ m) a
first-or l m x a old (inl has) = inr (old has)
first-or l m x a old (inr same) = inl same

pub listed-sift : (keep : List ℕ → Bool) (w : List ℕ) (a : OpName) → Has (listed keep w) a → Has (sift keep w) a
listed-sift keep [] a has = absurd has
listed-sift keep (k ∷ w) a has = elim (cases_Bool (keep (k ∷ w))) [
  | inl holds ↦
      let here : Has (listed keep w ++ name_of k w ∷ []) a = subst (λ (z : List OpName). Has z a) (listed-kept keep k w holds) has in
      subst (λ (z : List OpName). Has z a) (sym (sift-kept keep k w holds))
      (first-or (listed keep w) (sift keep w) (name_of k w) a (listed-sift keep w a) (has-snoc (listed keep w) (name_of k w) a here))
  | inr fails ↦
      subst (λ (z : List OpName). Has z a) (sym (sift-dropped keep k w fails))
      (listed-sift keep w a (subst (λ (z : List OpName). Has z a) (listed-dropped keep k w fails) has))
]

last-or : (l m : List OpName) (x a : OpName) → (Has m a → Has l a) → Has (x ∷ m) a → Has (l ++ x ∷ []) a
last-or l m x a old (inl same) = has-right l (x ∷ []) a (inl same)
last-or l m x a old (inr has) = has-left l (x ∷ []) a (old has)

pub sift-listed : (keep : List ℕ → Bool) (w : List ℕ) (a : OpName) → Has (sift keep w) a → Has (listed keep w) a
sift-listed keep [] a has = absurd has
sift-listed keep (k ∷ w) a has = elim (cases_Bool (keep (k ∷ w))) [
  | inl holds ↦
      subst (λ (z : List OpName). Has z a) (sym (listed-kept keep k w holds))
      (last-or (listed keep w) (sift keep w) (name_of k w) a (sift-listed keep w a)
      (subst (λ (z : List OpName). Has z a) (sift-kept keep k w holds) has))
  | inr fails ↦
      subst (λ (z : List OpName). Has z a) (sym (listed-dropped keep k w fails))
      (sift-listed keep w a (subst (λ (z : List OpName). Has z a) (sift-dropped keep k w fails) has))
]

pub listed-has : (keep : List ℕ → Bool) (w : List ℕ) (a : OpName) → Has (listed keep w) a → IsKept keep w a
listed-has keep w a has = kept-has keep w a (listed-sift keep w a has)

pub kept-listed : (keep : List ℕ → Bool) (w : List ℕ) (a : OpName) → IsKept keep w a → Has (listed keep w) a
kept-listed keep w a kept = sift-listed keep w a (has-kept keep w a kept)

-- in the same order
behind-or : (l m : List OpName) (x a b : OpName) → (IsBefore l a b → Before m a b) → (Has l a → Has m a)
    → IsBefore l a b ⊎ ((b ≡ x) × Has l a) → Before (x ∷ m) a b
behind-or l m x a b old has (inl h) = inr (old h)
behind-or l m x a b old has (inr h) = inl (h.0, has h.1)

pub listed-before : (keep : List ℕ → Bool) (w : List ℕ) (a b : OpName) → IsBefore (listed keep w) a b → Before (sift keep w) a b
listed-before keep [] a b h = absurd h
listed-before keep (k ∷ w) a b h = elim (cases_Bool (keep (k ∷ w))) [
  | inl holds ↦
      let here : IsBefore (listed keep w ++ name_of k w ∷ []) a b =
      subst (λ (z : List OpName). IsBefore z a b) (listed-kept keep k w holds) h in
      subst (λ (z : List OpName). Before z a b) (sym (sift-kept keep k w holds))
      (behind-or (listed keep w) (sift keep w) (name_of k w) a b (listed-before keep w a b) (listed-sift keep w a)
      (before-snoc (listed keep w) (name_of k w) a b here))
  | inr fails ↦
      subst (λ (z : List OpName). Before z a b) (sym (sift-dropped keep k w fails))
      (listed-before keep w a b (subst (λ (z : List OpName). IsBefore z a b) (listed-dropped keep k w fails) h))
]

before-or : (l m : List OpName) (x a b : OpName) → (Before m a b → IsBefore l a b) → (Has m a → Has l a)
    → Before (x ∷ m) a b → IsBefore (l ++ x ∷ []) a b
before-or l m x a b old has (inl h) =
    subst (λ (z : OpName). IsBefore (l ++ x ∷ []) a z) (sym h.0) (before-last l x a (has h.1))
before-or l m x a b old has (inr h) = before-left l (x ∷ []) a b (old h)

pub before-listed : (keep : List ℕ → Bool) (w : List ℕ) (a b : OpName) → Before (sift keep w) a b → IsBefore (listed keep w) a b
before-listed keep [] a b h = absurd h
before-listed keep (k ∷ w) a b h = elim (cases_Bool (keep (k ∷ w))) [
  | inl holds ↦
      subst (λ (z : List OpName). IsBefore z a b) (sym (listed-kept keep k w holds))
      (before-or (listed keep w) (sift keep w) (name_of k w) a b (before-listed keep w a b) (sift-listed keep w a)
      (subst (λ (z : List OpName). Before z a b) (sift-kept keep k w holds) h))
  | inr fails ↦
      subst (λ (z : List OpName). IsBefore z a b) (sym (listed-dropped keep k w fails))
      (before-listed keep w a b (subst (λ (z : List OpName). Before z a b) (sift-dropped keep k w fails) h))
]

-- a front of the fork gives a front of the names
pub prefix-listed : (keep : List ℕ → Bool) (u w : List ℕ) → IsTail u w → IsPrefix (listed keep u) (listed keep w)
prefix-listed keep u [] h = subst (λ (z : List ℕ). IsPrefix (listed keep z) (listed keep [])) (sym h) tt
prefix-listed keep u (k ∷ w) (inl same) =
    subst (λ (z : List ℕ). IsPrefix (listed keep u) (listed keep z)) same (prefix-refl (listed keep u))
prefix-listed keep u (k ∷ w) (inr h) =
    let old = prefix-listed keep u w h in
    elim (cases_Bool (keep (k ∷ w))) [
      | inl holds ↦
          subst (λ (z : List OpName). IsPrefix (listed keep u) z) (sym (listed-kept keep k w holds))
          (prefix-trans (listed keep u) (listed keep w) (listed keep w ++ name_of k w ∷ []) old
          (prefix-left (listed keep w) (name_of k w ∷ [])))
      | inr fails ↦ subst (λ (z : List OpName). IsPrefix (listed keep u) z) (sym (listed-dropped keep k w fails)) old
    ]

-- Where a name stands: a front of the fork ends with its operation, and the test keeps it.
pub record IsPlaced (keep : List ℕ → Bool) (w : List ℕ) (a : OpName) : Type 0 where
  pub older : List ℕ
  pub front : IsTail (a.client ∷ older) w
  pub number : a.t ≡ suc (count a.client older)
  pub kept : keep (a.client ∷ older) ≡ true

placed-here : (keep : List ℕ → Bool) (k : ℕ) (w : List ℕ) (a : OpName) → keep (k ∷ w) ≡ true → a ≡ name_of k w
    → IsPlaced keep (k ∷ w) a
placed-here keep k w a holds same =
    subst (λ (z : OpName). IsPlaced keep (k ∷ w) z) (sym same)
    (record { older = w; front = inl refl; number = refl; kept = holds })

placed-more : (keep : List ℕ → Bool) (k : ℕ) (w : List ℕ) (a : OpName) → IsPlaced keep w a → IsPlaced keep (k ∷ w) a
placed-more keep k w a h = record { older = h.older; front = inr h.front; number = h.number; kept = h.kept }

placed-or : (keep : List ℕ → Bool) (k : ℕ) (w : List ℕ) (a : OpName) → keep (k ∷ w) ≡ true
    → (Has (listed keep w) a → IsPlaced keep w a)
    → Has (listed keep w) a ⊎ (a ≡ name_of k w) → IsPlaced keep (k ∷ w) a
placed-or keep k w a holds old (inl has) = placed-more keep k w a (old has)
placed-or keep k w a holds old (inr same) = placed-here keep k w a holds same

pub placed : (keep : List ℕ → Bool) (w : List ℕ) (a : OpName) → Has (listed keep w) a → IsPlaced keep w a
placed keep [] a has = absurd has
placed keep (k ∷ w) a has = elim (cases_Bool (keep (k ∷ w))) [
  | inl holds ↦
      let here : Has (listed keep w ++ name_of k w ∷ []) a = subst (λ (z : List OpName). Has z a) (listed-kept keep k w holds) has in
      placed-or keep k w a holds (placed keep w a) (has-snoc (listed keep w) (name_of k w) a here)
  | inr fails ↦
      placed-more keep k w a (placed keep w a (subst (λ (z : List OpName). Has z a) (listed-dropped keep k w fails) has))
]

pub placed-name : (keep : List ℕ → Bool) (w : List ℕ) (a : OpName) → (place : IsPlaced keep w a) → a ≡ name_of a.client place.older
placed-name keep w a place = name-same a a.client place.older refl place.number

pub placed-has : (keep : List ℕ → Bool) (w : List ℕ) (a : OpName) → IsPlaced keep w a → Has (listed keep w) a
placed-has keep w a place =
    let here : Has (sift keep (a.client ∷ place.older)) a = subst (λ (z : List OpName). Has z a)
    (sym (sift-kept keep a.client place.older place.kept)) (inl (placed-name keep w a place)) in
    sift-listed keep w a (has-tail (sift keep (a.client ∷ place.older)) (sift keep w) a
    (sift-tail keep (a.client ∷ place.older) w place.front) here)

-- what stands before a name is what is kept of the fork before its operation
pub before-older : (keep : List ℕ → Bool) (w : List ℕ) (a b : OpName) → (place : IsPlaced keep w b) → IsBefore (listed keep w) a b
    → Has (listed keep place.older) a
before-older keep w a b place h =
    let here : Before (sift keep w) a (name_of b.client place.older) =
    subst (λ (z : OpName). Before (sift keep w) a z) (placed-name keep w b place) (listed-before keep w a b h) in
    sift-listed keep place.older a (before-sift keep b.client place.older w a place.kept place.front here)

pub older-before : (keep : List ℕ → Bool) (w : List ℕ) (a b : OpName) → (place : IsPlaced keep w b) → Has (listed keep place.older) a
    → IsBefore (listed keep w) a b
older-before keep w a b place has =
    subst (λ (z : OpName). IsBefore (listed keep w) a z) (sym (placed-name keep w b place))
    (before-listed keep w a (name_of b.client place.older)
    (sift-before keep b.client place.older w a place.kept place.front (listed-sift keep place.older a has)))

-- A front of the names ends with one: what stands before it is what is kept of the fork before its operation.
pub record IsListedAt (keep : List ℕ → Bool) (w : List ℕ) (before : List OpName) (a : OpName) : Type 0 where
  pub older : List ℕ
  pub front : IsTail (a.client ∷ older) w
  pub number : a.t ≡ suc (count a.client older)
  pub kept : keep (a.client ∷ older) ≡ true
  pub before_is : before ≡ listed keep older

at-more : (keep : List ℕ → Bool) (k : ℕ) (w : List ℕ) (before : List OpName) (a : OpName) → IsListedAt keep w before a
    → IsListedAt keep (k ∷ w) before a
at-more keep k w before a h =
    record { older = h.older; front = inr h.front; number = h.number; kept = h.kept; before_is = h.before_is }

at-or : (keep : List ℕ → Bool) (k : ℕ) (w : List ℕ) (before : List OpName) (a : OpName) → keep (k ∷ w) ≡ true
    → (IsPrefix (before ++ a ∷ []) (listed keep w) → IsListedAt keep w before a)
    → IsPrefix (before ++ a ∷ []) (listed keep w) ⊎ (before ++ a ∷ [] ≡ listed keep w ++ name_of k w ∷ [])
    → IsListedAt keep (k ∷ w) before a
at-or keep k w before a holds old (inl front) = at-more keep k w before a (old front)
at-or keep k w before a holds old (inr whole) =
    let parts = snoc-same before (listed keep w) a (name_of k w) whole in
    subst (λ (z : OpName). IsListedAt keep (k ∷ w) before z) (sym parts.1)
    (record { older = w; front = inl refl; number = refl; kept = holds; before_is = parts.0 })

pub listed_at : (keep : List ℕ → Bool) (w : List ℕ) (before : List OpName) (a : OpName) → IsPrefix (before ++ a ∷ []) (listed keep w)
    → IsListedAt keep w before a
listed_at keep [] before a h = absurd (nil-snoc before a (sym (prefix-nil (before ++ a ∷ []) h)))
listed_at keep (k ∷ w) before a h = elim (cases_Bool (keep (k ∷ w))) [
  | inl holds ↦
      let here : IsPrefix (before ++ a ∷ []) (listed keep w ++ name_of k w ∷ []) =
      subst (λ (z : List OpName). IsPrefix (before ++ a ∷ []) z) (listed-kept keep k w holds) h in
      at-or keep k w before a holds (listed_at keep w before a)
      (prefix-snoc (before ++ a ∷ []) (listed keep w) (name_of k w) here)
  | inr fails ↦
      at-more keep k w before a (listed_at keep w before a
      (subst (λ (z : List OpName). IsPrefix (before ++ a ∷ []) z) (listed-dropped keep k w fails) h))
]
