-- The test whether one vector is ahead of another says what it is to say.
use Rattle.std.proofs.Common.{◌≡◌, ◌↔◌, ℕ, ◌<◌, ◌≤◌, zero, suc, Bool, true, not, List, length, get_or, refl, sym, subst, inl, inr, arith}
use Rattle.std.proofs.lemmas.Bool.{and_parts, and_from, not-true, leb-true, le-leb, both_ways, cases_Bool, cases_eq}
use Rattle.std.proofs.lemmas.List.{ext_get_or}
use Rattle.faust_server.specs.Ahead.{IsAhead, covers_up_to, covers, is_ahead}

pub covers_up_to-true : (v w : List ℕ) (n : ℕ) → covers_up_to v w n ≡ true → (k : ℕ) → k < n → get_or w k 0 ≤ get_or v k 0
covers_up_to-true v w zero h k lt = absurd (omega arith)
covers_up_to-true v w (suc n) h k lt =
    let parts = and_parts _ _ h in
    elim (cases_eq k n) [
      | inl q ↦ subst (λ (x : ℕ). get_or w x 0 ≤ get_or v x 0) (sym q) (leb-true _ _ parts.1)
      | inr ne ↦ covers_up_to-true v w n parts.0 k (omega (arith, ne))
    ]

pub covers_up_to-from : (v w : List ℕ) (n : ℕ) → ((k : ℕ) → k < n → get_or w k 0 ≤ get_or v k 0) → covers_up_to v w n ≡ true
covers_up_to-from v w zero each = refl
covers_up_to-from v w (suc n) each = and_from _ _ (covers_up_to-from v w n (λ k lt. each k (omega arith)))
    (le-leb _ _ (each n (omega arith)))

pub covers-true : (v w : List ℕ) → covers v w ≡ true → (k : ℕ) → k < length v → get_or w k 0 ≤ get_or v k 0
unfolding covers
covers-true v w h = covers_up_to-true v w (length v) h

pub covers-from : (v w : List ℕ) → ((k : ℕ) → k < length v → get_or w k 0 ≤ get_or v k 0) → covers v w ≡ true
unfolding covers
covers-from v w each = covers_up_to-from v w (length v) each

-- a list covers itself
pub covers-refl : (v : List ℕ) → covers v v ≡ true
covers-refl v = covers-from v v (λ k lt. omega arith)

-- two lists of one length that cover each other are equal
pub covers-both : (v w : List ℕ) → length v ≡ length w → covers v w ≡ true → covers w v ≡ true → v ≡ w
covers-both v w paired there back = ext_get_or 0 v w paired
    (λ k lt. let a = covers-true v w there k lt in let b = covers-true w v back k (omega (arith, paired)) in omega arith)

pub is_ahead-means : (v w : List ℕ) → length v ≡ length w → (is_ahead v w ≡ true) ↔ IsAhead v w
is_ahead-means v w paired = (
  λ h.
      let parts = and_parts _ _ h in
      record {
        at_least = covers-true v w parts.0;
        differs = λ e. both_ways (covers w v) (not-true _ parts.1) (subst (λ (x : List ℕ). covers w x ≡ true) (sym e) (covers-refl w));
      },
  λ a.
      let there = covers-from v w a.at_least in
      and_from _ _ there (elim (cases_Bool (covers w v)) [
        | inl back ↦ absurd (a.differs (covers-both v w paired there back))
        | inr not_back ↦ subst (λ (b : Bool). not b ≡ true) (sym not_back) refl
      ]),
)
