-- Fronts of one history in time: an order in which those of one history stand in line.
use Rattle.std.proofs.Common.{◌≡◌, ℕ, ◌+◌, ◌<◌, ◌≤◌, List, [], ◌∷◌, ◌++◌, length, refl, sym, ap, ◌∙◌, subst, inl, inr, arith}
use Rattle.std.proofs.lemmas.Bool.{cases_eq}
use Rattle.faust_types.specs.Clients.{IsClient}
use Rattle.faust_lists.specs.Lists.{count, AreClients, IsTail, AreAlong}
use Rattle.faust_lists.proofs.Counts.{count-own, count-other, count-le-cons}

pub tail-refl : {X : Type 0} (w : List X) → IsTail w w
tail-refl [] = refl
tail-refl (x ∷ w) = inl refl

pub tail-nil : {X : Type 0} (w : List X) → IsTail [] w
tail-nil [] = refl
tail-nil (x ∷ w) = inr (tail-nil w)

pub tail-trans : {X : Type 0} (u v w : List X) → IsTail u v → IsTail v w → IsTail u w
tail-trans {X} u v [] h i = subst (λ (z : List X). IsTail u z) i h
tail-trans {X} u v (x ∷ w) h (inl same) = subst (λ (z : List X). IsTail u z) same h
tail-trans u v (x ∷ w) h (inr i) = inr (tail-trans u v w h i)

pub tail-cons : {X : Type 0} (x : X) (u w : List X) → IsTail (x ∷ u) w → IsTail u w
tail-cons x u w h = tail-trans u (x ∷ u) w (inr (tail-refl u)) h

pub tail-length : {X : Type 0} (u w : List X) → IsTail u w → length u ≤ length w
tail-length {X} u [] h = omega (arith, ap (λ (z : List X). length z) h)
tail-length {X} u (x ∷ w) (inl same) = omega (arith, ap (λ (z : List X). length z) same)
tail-length u (x ∷ w) (inr h) = omega (arith, tail-length u w h)

-- a front as long as the whole is the whole
pub tail-whole : {X : Type 0} (u w : List X) → IsTail u w → length w ≤ length u → u ≡ w
tail-whole u [] h le = h
tail-whole u (x ∷ w) (inl same) le = same
tail-whole u (x ∷ w) (inr h) le = absurd (omega (arith, tail-length u w h))

pub tail-antisym : {X : Type 0} (u w : List X) → IsTail u w → IsTail w u → u ≡ w
tail-antisym u w h i = tail-whole u w h (tail-length w u i)

-- two fronts of one history stand in line
pub tail-linear : {X : Type 0} (u v w : List X) → IsTail u w → IsTail v w → AreAlong u v
tail-linear {X} u v [] h i = inl (subst (λ (z : List X). IsTail z v) (sym h) (tail-nil v))
tail-linear {X} u v (x ∷ w) (inl same) i = inr (subst (λ (z : List X). IsTail v z) (sym same) i)
tail-linear {X} u v (x ∷ w) (inr h) (inl same) = inl (subst (λ (z : List X). IsTail u z) (sym same) (inr h))
tail-linear u v (x ∷ w) (inr h) (inr i) = tail-linear u v w h i

pub along-sym : {X : Type 0} (u w : List X) → AreAlong u w → AreAlong w u
along-sym u w (inl h) = inr h
along-sym u w (inr h) = inl h

-- what stands in line with the whole stands in line with each front
pub along-below : {X : Type 0} (u w v : List X) → IsTail u w → AreAlong w v → AreAlong u v
along-below u w v h (inl i) = inl (tail-trans u w v h i)
along-below u w v h (inr i) = tail-linear u v w h i

-- a front is shorter by an operation or the whole
pub tail-step : {X : Type 0} (u : List X) (x : X) (w : List X) → IsTail u (x ∷ w) → (length w < length u → ⊥) → IsTail u w
tail-step {X} u x w (inl same) short = absurd (short (omega (arith, ap (λ (z : List X). length z) same)))
tail-step u x w (inr h) short = h

-- a front counts no more
pub count-tail : (k : ℕ) (u w : List ℕ) → IsTail u w → count k u ≤ count k w
count-tail k u [] h = omega (arith, ap (λ (z : List ℕ). count k z) h)
count-tail k u (x ∷ w) (inl same) = omega (arith, ap (λ (z : List ℕ). count k z) same)
count-tail k u (x ∷ w) (inr h) = omega (arith, count-tail k u w h, count-le-cons k x w)

pub AreClients-tail : (n : ℕ) (u w : List ℕ) → AreClients n w → IsTail u w → AreClients n u
AreClients-tail n u [] all h = subst (λ (z : List ℕ). AreClients n z) (sym h) tt
AreClients-tail n u (x ∷ w) all (inl same) = subst (λ (z : List ℕ). AreClients n z) (sym same) all
AreClients-tail n u (x ∷ w) all (inr h) = AreClients-tail n u w all.1 h

-- a front that counts as much of each client is the whole
pub tail-counted : (n : ℕ) (u w : List ℕ) → AreClients n w → IsTail u w → ((k : ℕ) → IsClient n k → count k w ≤ count k u) → u ≡ w
tail-counted n u [] all h each = h
tail-counted n u (x ∷ w) all (inl same) each = same
tail-counted n u (x ∷ w) all (inr h) each =
    absurd (omega (arith, each x all.0, count-own x x w refl, count-tail x u w h))

-- a history put behind another
pub count-append : (k : ℕ) (u w : List ℕ) → count k (u ++ w) ≡ count k u + count k w
count-append k [] w = omega arith
count-append k (x ∷ u) w =
    let rest = count-append k u w in
    elim (cases_eq x k) [
      | inl e ↦ omega (arith, rest, count-own k x (u ++ w) e, count-own k x u e)
      | inr ne ↦ omega (arith, rest, count-other k x (u ++ w) ne, count-other k x u ne)
    ]

pub tail-append : {X : Type 0} (u w : List X) → IsTail w (u ++ w)
tail-append [] w = tail-refl w
tail-append (x ∷ u) w = inr (tail-append u w)

pub AreClients-front : (n : ℕ) (u w : List ℕ) → AreClients n (u ++ w) → AreClients n u
AreClients-front n [] w all = tt
AreClients-front n (x ∷ u) w all = (all.0, AreClients-front n u w all.1)

-- an operation that is the only one of its client stands between those after it and those before it
pub record IsOnce (k : ℕ) (w : List ℕ) : Type 0 where
  pub newer : List ℕ
  pub older : List ℕ
  pub split : w ≡ newer ++ k ∷ older
  pub none_newer : count k newer ≡ 0
  pub none_older : count k older ≡ 0

pub once-from : (k : ℕ) (w : List ℕ) → count k w ≡ 1 → IsOnce k w
once-from k [] one = absurd (omega arith)
once-from k (x ∷ w) one = elim (cases_eq x k) [
  | inl e ↦ record {
    newer = [];
    older = w;
    split = ap (λ (z : ℕ). z ∷ w) e;
    none_newer = refl;
    none_older = omega (arith, one, count-own k x w e);
  }
  | inr ne ↦
      let rest = once-from k w (omega (arith, one, count-other k x w ne)) in
      record {
        newer = x ∷ rest.newer;
        older = rest.older;
        split = ap (λ (z : List ℕ). x ∷ z) rest.split;
        none_newer = count-other k x rest.newer ne ∙ rest.none_newer;
        none_older = rest.none_older;
      }
]
