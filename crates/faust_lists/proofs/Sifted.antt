-- What a test keeps of the names of a history.
use Rattle.std.proofs.Common.{◌≡◌, ℕ, suc, Bool, true, List, [], ◌∷◌, refl, sym, ap, ◌∙◌, subst, inl, inr, arith}
use Rattle.std.proofs.lemmas.Bool.{cases_eq, cases_lt, cases_Bool}
use Rattle.faust_types.specs.declared.operation.OpName.{OpName}
use Rattle.faust_lists.specs.Lists.{count, upto, IsTail}
use Rattle.faust_lists.specs.Names.{name_of, sift, names, Has, AreDistinct, IsKept}
use Rattle.faust_lists.proofs.Counts.{count-own, count-other, count-le-cons, count-cons-le, upto-more, upto-here, sift-kept, sift-dropped}
use Rattle.faust_lists.proofs.Tails.{tail-refl}

pub has-tail : {X : Type 0} (l m : List X) (a : X) → IsTail l m → Has l a → Has m a
has-tail {X} l [] a h has = subst (λ (z : List X). Has z a) h has
has-tail {X} l (x ∷ m) a (inl same) has = subst (λ (z : List X). Has z a) same has
has-tail l (x ∷ m) a (inr h) has = inr (has-tail l m a h has)

-- what is kept of a front is a front of what is kept
pub sift-tail : (keep : List ℕ → Bool) (u w : List ℕ) → IsTail u w → IsTail (sift keep u) (sift keep w)
sift-tail keep u [] h = ap (sift keep) h
sift-tail keep u (x ∷ w) (inl same) = subst (λ (z : List ℕ). IsTail (sift keep u) (sift keep z)) same (tail-refl (sift keep u))
sift-tail keep u (x ∷ w) (inr h) =
    let more = sift-tail keep u w h in
    elim (cases_Bool (keep (x ∷ w))) [
      | inl holds ↦ subst (λ (z : List OpName). IsTail (sift keep u) z) (sym (sift-kept keep x w holds)) (inr more)
      | inr fails ↦ subst (λ (z : List OpName). IsTail (sift keep u) z) (sym (sift-dropped keep x w fails)) more
    ]

pub name-same : (a : OpName) (k : ℕ) (w : List ℕ) → a.client ≡ k → a.t ≡ suc (count k w) → a ≡ name_of k w
name-same a k w client number =
    let named : ℕ → ℕ → OpName = λ (c : ℕ) (t : ℕ). record { client = c; t = t } in
    ap (λ (c : ℕ). named c a.t) client ∙ ap (λ (t : ℕ). named k t) number

-- the operation that is added has its own name
pub kept-here : (keep : List ℕ → Bool) (k : ℕ) (w : List ℕ) → keep (k ∷ w) ≡ true → IsKept keep (k ∷ w) (name_of k w)
kept-here keep k w holds =
    let one : count k (k ∷ w) ≡ suc (count k w) = count-own k k w refl in
    record {
      from_one = omega arith;
      within = omega arith;
      kept = ap keep (upto-here k (suc (count k w)) k w (omega arith)) ∙ holds;
    }

-- what is kept stays kept
pub kept-more : (keep : List ℕ → Bool) (k : ℕ) (w : List ℕ) (a : OpName) → IsKept keep w a → IsKept keep (k ∷ w) a
kept-more keep k w a h = record {
  from_one = h.from_one;
  within = omega (arith, h.within, count-le-cons a.client k w);
  kept = ap keep (upto-more a.client a.t k w h.within) ∙ h.kept;
}

kept-first : (keep : List ℕ → Bool) (k : ℕ) (w : List ℕ) (a : OpName) → keep (k ∷ w) ≡ true → Has (name_of k w ∷ sift keep w) a
    → (Has (sift keep w) a → IsKept keep w a) → IsKept keep (k ∷ w) a
kept-first keep k w a holds (inl e) rest = subst (λ (z : OpName). IsKept keep (k ∷ w) z) (sym e) (kept-here keep k w holds)
kept-first keep k w a holds (inr has) rest = kept-more keep k w a (rest has)

nil-cons : (a : OpName) (l : List OpName) → [] ≡ a ∷ l → ⊥
nil-cons a l h = cc

cons-cons : (a b : OpName) (l m : List OpName) → a ∷ l ≡ b ∷ m → (a ≡ b) × (l ≡ m)
cons-cons a b l m h = (cc, cc)

-- the names that are kept are those of the operations of the history that the test keeps
pub kept-has : (keep : List ℕ → Bool) (w : List ℕ) (a : OpName) → Has (sift keep w) a → IsKept keep w a
kept-has keep [] a has = absurd has
kept-has keep (k ∷ w) a has = elim (cases_Bool (keep (k ∷ w))) [
  | inl holds ↦
      let split : Has (name_of k w ∷ sift keep w) a = subst (λ (z : List OpName). Has z a) (sift-kept keep k w holds) has in
      kept-first keep k w a holds split (kept-has keep w a)
  | inr fails ↦
      kept-more keep k w a (kept-has keep w a (subst (λ (z : List OpName). Has z a) (sift-dropped keep k w fails) has))
]

pub has-kept : (keep : List ℕ → Bool) (w : List ℕ) (a : OpName) → IsKept keep w a → Has (sift keep w) a
has-kept keep [] a h = absurd (omega (arith, h.from_one, h.within))
has-kept keep (k ∷ w) a h = elim (cases_lt (count a.client w) a.t) [
  | inl lt ↦ elim (cases_eq k a.client) [
    | inl e ↦
        let whole : upto a.client a.t (k ∷ w) ≡ k ∷ w = upto-here a.client a.t k w lt in
        let holds : keep (k ∷ w) ≡ true = ap keep (sym whole) ∙ h.kept in
        let number : a.t ≡ suc (count k w) =
        subst (λ (z : ℕ). a.t ≡ suc (count z w)) (sym e) (omega (arith, h.within, count-cons-le a.client k w, lt)) in
        subst (λ (z : List OpName). Has z a) (sym (sift-kept keep k w holds)) (inl (name-same a k w (sym e) number))
    | inr ne ↦ absurd (omega (arith, h.within, count-other a.client k w ne, lt))
  ]
  | inr le ↦
      let before : IsKept keep w a = record {
        from_one = h.from_one;
        within = le;
        kept = ap keep (sym (upto-more a.client a.t k w le)) ∙ h.kept;
      } in
      has-tail (sift keep w) (sift keep (k ∷ w)) a (sift-tail keep w (k ∷ w) (inr (tail-refl w))) (has-kept keep w a before)
]

-- no name stands twice
pub distinct-sift : (keep : List ℕ → Bool) (w : List ℕ) → AreDistinct (sift keep w)
distinct-sift keep [] = tt
distinct-sift keep (k ∷ w) =
    let rest = distinct-sift keep w in
    elim (cases_Bool (keep (k ∷ w))) [
      | inl holds ↦
          let fresh : Has (sift keep w) (name_of k w) → ⊥ = λ (has : Has (sift keep w) (name_of k w)).
          let old = kept-has keep w (name_of k w) has in
          absurd (omega (arith, old.within)) in
          subst (λ (z : List OpName). AreDistinct z) (sym (sift-kept keep k w holds)) (fresh, rest)
      | inr fails ↦ subst (λ (z : List OpName). AreDistinct z) (sym (sift-dropped keep k w fails)) rest
    ]

-- the names of a whole history
pub names-cons : (k : ℕ) (w : List ℕ) → names (k ∷ w) ≡ name_of k w ∷ names w
names-cons k w = refl

pub names-same : (u w : List ℕ) → names u ≡ names w → u ≡ w
names-same [] [] h = refl
names-same [] (y ∷ w) h = absurd (nil-cons _ _ h)
names-same (x ∷ u) [] h = absurd (nil-cons _ _ (sym h))
names-same (x ∷ u) (y ∷ w) h =
    let parts = cons-cons _ _ _ _ h in
    let heads : x ≡ y = ap (λ (a : OpName). a.client) parts.0 in
    let tails : u ≡ w = names-same u w parts.1 in
    cc

pub names-tail : (u w : List ℕ) → IsTail (names u) (names w) → IsTail u w
names-tail u [] h = names-same u [] h
names-tail u (x ∷ w) (inl same) = inl (names-same u (x ∷ w) same)
names-tail u (x ∷ w) (inr h) = inr (names-tail u w h)
