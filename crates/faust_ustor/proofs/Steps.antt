-- What it says that no check of a step is broken.
use Rattle.std.proofs.Common.{◌≡◌, ℕ, ◌+◌, ◌^◌, ◌<◌, length, get_or, drop, ap, ◌∙◌, Bool, true, false, not, if◌then◌else◌, List, Option, Some, None, refl, subst, arith}
use Rattle.std.proofs.lemmas.Bool.{and_parts, ltb-true, eqb-true, eq-eqb, not-true, true≢false}
use Rattle.std.proofs.lemmas.List.{at_drop_more}
use Rattle.faust_types.specs.Versions.{Vector, timestamp_at}
use Rattle.faust_types.specs.declared.operation.Operation.{Operation}
use Rattle.faust_types.specs.declared.operation.Notice.{Notice}
use Rattle.faust_types.specs.declared.message.Tuple.{Tuple}
use Rattle.faust_types.specs.declared.message.Reply.{Reply}
use Rattle.faust_ustor.specs.declared.walk.Walk.{Walk}
use Rattle.faust_ustor.specs.InRange.{IsPendingOf, IsWalkFor}
use Rattle.faust_ustor.specs.Checks.{broken_base, broken_tuple, is_of_another, is_proven, is_next_submitted, is_part_for, is_known_right, is_own_kept, advanced, unless, walked}

-- None of three conditions is broken.
pub record AllThree (a b c : Bool) : Type 0 where
  pub first : a ≡ true
  pub second : b ≡ true
  pub third : c ≡ true

pub none-three : (a b c : Bool) (x y z : Notice)
    → (if not a then Some x else if not b then Some y else if not c then Some z else None) ≡ None → AllThree a b c
none-three true true true x y z h = record { first = refl; second = refl; third = refl }
none-three true true false x y z h = cc
none-three true false c x y z h = cc
none-three false b c x y z h = cc

-- The conditions of checks 6, 7 and 8, and those of checks 3, 4 and 5.
pub tuple-holds : (key : List ℕ) (me : ℕ) (proofs : List (Option (List ℕ))) (q : ℕ) (walk : Walk) (tuple : Tuple)
    → broken_tuple key me proofs q walk tuple ≡ None
    → AllThree (is_of_another me tuple) (is_proven key proofs walk.version tuple.client) (is_next_submitted key walk.version tuple)
unfolding broken_tuple
tuple-holds key me proofs q walk tuple h = none-three _ _ _ _ _ _ h

pub base-holds : (key : List ℕ) (me : ℕ) (own : Vector) (op : Operation) (reply : Reply) → broken_base key me own op reply ≡ None
    → AllThree (is_part_for op.kind op.register reply.read) (is_known_right key reply.c reply.version)
    (is_own_kept me own reply.version.version)
unfolding broken_base
base-holds key me own op reply h = none-three _ _ _ _ _ _ h

-- A tuple that breaks no check is of another client, which has room for it.
pub tuple-another : (key : List ℕ) (me : ℕ) (proofs : List (Option (List ℕ))) (q : ℕ) (walk : Walk) (tuple : Tuple)
    → broken_tuple key me proofs q walk tuple ≡ None
    → tuple.client ≡ me → ⊥
tuple-another key me proofs q walk tuple h e =
    let other = not-true _ (tuple-holds key me proofs q walk tuple h).first in
    let same = eq-eqb tuple.client me e in
    absurd (true≢false (subst (λ (b : Bool). b ≡ false) same other))

pub tuple-room : (key : List ℕ) (me : ℕ) (proofs : List (Option (List ℕ))) (q : ℕ) (walk : Walk) (tuple : Tuple)
    → broken_tuple key me proofs q walk tuple ≡ None
    → timestamp_at walk.version tuple.client + 1 < 2 ^ 40
tuple-room key me proofs q walk tuple h = ltb-true _ _ (and_parts _ _ (tuple-holds key me proofs q walk tuple h).third).0

-- Where checks 3 to 5 hold, the version of c counts the own operations.
pub base-own : (key : List ℕ) (me : ℕ) (own : Vector) (op : Operation) (reply : Reply) → broken_base key me own op reply ≡ None
    → timestamp_at own me ≡ timestamp_at reply.version.version me
base-own key me own op reply h = eqb-true _ _ (and_parts _ _ (base-holds key me own op reply h).third).1

-- One tuple more.
pub walked-more : (key : List ℕ) (me : ℕ) (proofs : List (Option (List ℕ))) (q : ℕ) (walk : Walk) (pending : List Tuple) (i : ℕ)
    (d : Tuple)
    → i < length pending → broken_tuple key me proofs q walk (get_or pending i d) ≡ None
    → walked key me proofs q walk (drop i pending)
    ≡ walked key me proofs (q + 1) (advanced walk (get_or pending i d).client) (drop (i + 1) pending)
walked-more key me proofs q walk pending i d lt h =
    at_drop_more (walked key me proofs q walk) pending i d lt
    ∙ ap (λ (b : Option Notice). unless b
    (walked key me proofs (q + 1) (advanced walk (get_or pending i d).client) (drop (i + 1) pending))) h

-- After the tuples there is room for the own operation.
pub own-room : (key : List ℕ) (me : ℕ) (own : Vector) (op : Operation) (reply : Reply) (n : ℕ) (walk : Walk) → IsPendingOf me own op
    → broken_base key me own op reply ≡ None
    → IsWalkFor n me (timestamp_at reply.version.version me) walk → timestamp_at walk.version me + 1 < 2 ^ 40
own-room key me own op reply n walk pending h w =
    omega (arith, base-own key me own op reply h, w.own_kept, pending.number, pending.below)
