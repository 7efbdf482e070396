-- A reply is judged to pass exactly where it breaks no check.
use Rattle.std.proofs.Common.{◌≡◌, ℕ, ◌+◌, ◌==◌, ◌||◌, ◌⊎◌, Bool, true, false, not, if◌then◌else◌, List, [], ◌∷◌, Option, Some, None, Result, Ok, Err, IfSome, refl, ap, ◌∙◌, subst, inl, inr}
use Rattle.std.proofs.lemmas.Bool.{and_parts, and_from, or_cases, or_left, or_right, eqb-true, eq-eqb, ne_eqb}
use Rattle.faust_types.specs.Versions.{Vector, timestamp_at}
use Rattle.faust_types.proofs.Order.{is_at_most-means}
use Rattle.faust_types.specs.declared.operation.Operation.{Operation}
use Rattle.faust_types.specs.declared.operation.Notice.{Notice}
use Rattle.faust_types.specs.declared.message.Tuple.{Tuple}
use Rattle.faust_types.specs.declared.message.ReadPart.{ReadPart}
use Rattle.faust_types.specs.declared.message.Reply.{Reply}
use Rattle.faust_ustor.specs.declared.judgement.Judged.{Judged}
use Rattle.faust_ustor.specs.declared.walk.Walk.{Walk}
use Rattle.faust_ustor.specs.Checks.{advanced, answered, begun, broken_base, broken_part, broken_tuple, completed, is_known_right, is_latest, is_mem_right, is_own_kept, is_part_for, is_recent, judged, time_of, unless, walked}
use Rattle.faust_ustor.specs.Passed.{followed, AreTuplesPassed, IsPartPassed, IsPassed, IsTuplePassed, next_of, told, told_of}
use Rattle.faust_ustor.proofs.Steps.{base-holds, tuple-another, tuple-holds}

-- Nothing is broken, and the rest gives the result.
pub record UnlessOk {X : Type 0} (b : Option Notice) (r : Result X Notice) (x : X) : Type 0 where
  pub unbroken : b ≡ None
  pub given : r ≡ Ok x

unless-parts : {X : Type 0} (b : Option Notice) (r : Result X Notice) (x : X) → unless b r ≡ Ok x → UnlessOk b r x
unless-parts None r x h = record { unbroken = refl; given = h }
unless-parts (Some notice) r x h = cc

unless-from : {X : Type 0} (b : Option Notice) (r : Result X Notice) (x : X) → b ≡ None → r ≡ Ok x → unless b r ≡ Ok x
unless-from b r x none h = ap (λ (m : Option Notice). unless m r) none ∙ h

from-three : (a b c : Bool) (x y z : Notice) → a ≡ true → b ≡ true → c ≡ true
    → (if not a then Some x else if not b then Some y else if not c then Some z else None) ≡ None
from-three true true true x y z p q r = refl
from-three true true false x y z p q r = cc
from-three true false c x y z p q r = cc
from-three false b c x y z p q r = cc

-- The same of four conditions.
record AllFour (a b c d : Bool) : Type 0 where
  first : a ≡ true
  second : b ≡ true
  third : c ≡ true
  fourth : d ≡ true

none-four : (a b c d : Bool) (x y z u : Notice)
    → (if not a then Some x else if not b then Some y else if not c then Some z else if not d then Some u else None) ≡ None
    → AllFour a b c d
none-four true true true true x y z u h = record { first = refl; second = refl; third = refl; fourth = refl }
none-four true true true false x y z u h = cc
none-four true true false d x y z u h = cc
none-four true false c d x y z u h = cc
none-four false b c d x y z u h = cc

from-four : (a b c d : Bool) (x y z u : Notice) → a ≡ true → b ≡ true → c ≡ true → d ≡ true
    → (if not a then Some x else if not b then Some y else if not c then Some z else if not d then Some u else None) ≡ None
from-four true true true true x y z u p q r s = refl
from-four true true true false x y z u p q r s = cc
from-four true true false d x y z u p q r s = cc
from-four true false c d x y z u p q r s = cc
from-four false b c d x y z u p q r s = cc

-- One tuple: it breaks no check exactly where it passes.
tuple-passed : (key : List ℕ) (me : ℕ) (proofs : List (Option (List ℕ))) (q : ℕ) (walk : Walk) (tuple : Tuple)
    → broken_tuple key me proofs q walk tuple ≡ None → IsTuplePassed key me proofs walk tuple
tuple-passed key me proofs q walk tuple h =
    let holds = tuple-holds key me proofs q walk tuple h in
    record { of_another = tuple-another key me proofs q walk tuple h; proven = holds.second; submitted = holds.third }

not-from : (b : Bool) → b ≡ false → not b ≡ true
not-from true h = cc
not-from false h = refl

pub tuple-unbroken : (key : List ℕ) (me : ℕ) (proofs : List (Option (List ℕ))) (q : ℕ) (walk : Walk) (tuple : Tuple)
    → IsTuplePassed key me proofs walk tuple → broken_tuple key me proofs q walk tuple ≡ None
unfolding broken_tuple
tuple-unbroken key me proofs q walk tuple h =
    from-three _ _ _ _ _ _ (not-from (tuple.client == me) (ne_eqb tuple.client me h.of_another)) h.proven h.submitted

-- All tuples: the walk comes to its end exactly where they pass.
pub record WalkedOk (key : List ℕ) (me : ℕ) (proofs : List (Option (List ℕ))) (walk : Walk) (tuples : List Tuple)
    (end : Walk) : Type 0 where
  pub passed : AreTuplesPassed key me proofs walk tuples
  pub ends : end ≡ followed walk tuples

pub walked-passed : (key : List ℕ) (me : ℕ) (proofs : List (Option (List ℕ))) (q : ℕ) (walk : Walk) (tuples : List Tuple) (end : Walk)
    → walked key me proofs q walk tuples ≡ Ok end → WalkedOk key me proofs walk tuples end
walked-passed key me proofs q walk [] end h = record { passed = tt; ends = cc }
walked-passed key me proofs q walk (tuple ∷ rest) end h =
    let parts = unless-parts (broken_tuple key me proofs q walk tuple)
    (walked key me proofs (q + 1) (advanced walk tuple.client) rest) end h in
    let more = walked-passed key me proofs (q + 1) (advanced walk tuple.client) rest end parts.given in
    record { passed = (tuple-passed key me proofs q walk tuple parts.unbroken, more.passed); ends = more.ends }

pub walked-from : (key : List ℕ) (me : ℕ) (proofs : List (Option (List ℕ))) (q : ℕ) (walk : Walk) (tuples : List Tuple)
    → AreTuplesPassed key me proofs walk tuples → walked key me proofs q walk tuples ≡ Ok (followed walk tuples)
walked-from key me proofs q walk [] h = refl
walked-from key me proofs q walk (tuple ∷ rest) h =
    unless-from (broken_tuple key me proofs q walk tuple) (walked key me proofs (q + 1) (advanced walk tuple.client) rest)
    (followed (advanced walk tuple.client) rest)
    (tuple-unbroken key me proofs q walk tuple h.0) (walked-from key me proofs (q + 1) (advanced walk tuple.client) rest h.1)

-- The read part.
recent-true : (at t : ℕ) → ((at == t) || (at + 1 == t)) ≡ true → (at ≡ t) ⊎ (at + 1 ≡ t)
recent-true at t h = elim (or_cases _ _ h) [
  | inl same ↦ inl (eqb-true at t same)
  | inr before ↦ inr (eqb-true (at + 1) t before)
]

recent-from : (at t : ℕ) → (at ≡ t) ⊎ (at + 1 ≡ t) → ((at == t) || (at + 1 == t)) ≡ true
recent-from at t (inl same) = or_left _ _ (eq-eqb at t same)
recent-from at t (inr before) = or_right _ _ (eq-eqb (at + 1) t before)

part-passed : (key : List ℕ) (version next : Vector) (part : ReadPart) → broken_part key version next part ≡ None
    → IsPartPassed key version next part
unfolding broken_part
part-passed key version next part h =
    let four = none-four (is_known_right key part.register part.version) (is_mem_right key part.register part.mem)
    (is_latest next part.register part.mem) (is_recent version part.register part.version.version (time_of part.mem)) _ _ _ _ h in
    let last = and_parts _ _ four.fourth in
    record {
      known_right = four.first;
      mem_right = four.second;
      latest = eqb-true _ _ four.third;
      at_most = (is_at_most-means part.version.version version).0 last.0;
      recent = recent-true (timestamp_at part.version.version part.register) (time_of part.mem) last.1;
    }

part-unbroken : (key : List ℕ) (version next : Vector) (part : ReadPart) → IsPartPassed key version next part
    → broken_part key version next part ≡ None
unfolding broken_part
part-unbroken key version next part h =
    from-four (is_known_right key part.register part.version) (is_mem_right key part.register part.mem)
    (is_latest next part.register part.mem) (is_recent version part.register part.version.version (time_of part.mem)) _ _ _ _
    h.known_right h.mem_right (eq-eqb _ _ h.latest)
    (and_from _ _ ((is_at_most-means part.version.version version).1 h.at_most)
    (recent-from (timestamp_at part.version.version part.register) (time_of part.mem) h.recent))

record AnsweredOk (key : List ℕ) (version next : Vector) (read : Option ReadPart) (judged : Judged) : Type 0 where
  passed : IfSome read (IsPartPassed key version next)
  tells : judged ≡ told_of next read

answered-passed : (key : List ℕ) (version next : Vector) (read : Option ReadPart) (judged : Judged)
    → answered key version next read ≡ Ok judged → AnsweredOk key version next read judged
answered-passed key version next None judged h = record { passed = tt; tells = cc }
answered-passed key version next (Some part) judged h =
    let parts = unless-parts (broken_part key version next part) (Ok (told_of next (Some part))) judged h in
    let given = parts.given in
    record { passed = part-passed key version next part parts.unbroken; tells = cc }

answered-from : (key : List ℕ) (version next : Vector) (read : Option ReadPart) → IfSome read (IsPartPassed key version next)
    → answered key version next read ≡ Ok (told_of next read)
answered-from key version next None h = refl
answered-from key version next (Some part) h = unless-from (broken_part key version next part) (Ok (told_of next (Some part)))
    (told_of next (Some part)) (part-unbroken key version next part h) refl

-- Checks 3 to 5.
pub base-unbroken : (key : List ℕ) (me : ℕ) (own : Vector) (op : Operation) (reply : Reply) → IsPassed key me own op reply
    → broken_base key me own op reply ≡ None
unfolding broken_base
base-unbroken key me own op reply h =
    from-three (is_part_for op.kind op.register reply.read) (is_known_right key reply.c reply.version)
    (is_own_kept me own reply.version.version) _ _ _ h.part_fits h.known_right
    (and_from _ _ ((is_at_most-means own reply.version.version).1 h.own_at_most) (eq-eqb _ _ h.own_counted))

-- After the tuples.
record CompletedOk (key : List ℕ) (me : ℕ) (reply : Reply) (w : Result Walk Notice) (judged : Judged) : Type 0 where
  walk : Walk
  came : w ≡ Ok walk
  answers : answered key reply.version.version (advanced walk me).version reply.read ≡ Ok judged

completed-parts : (key : List ℕ) (me : ℕ) (reply : Reply) (w : Result Walk Notice) (judged : Judged) → completed key me reply w ≡ Ok judged
    → CompletedOk key me reply w judged
completed-parts key me reply (Ok walk) judged h = record { walk = walk; came = refl; answers = h }
completed-parts key me reply (Err notice) judged h = cc

-- After checks 3 to 8 the answer is that of the read part.
pub judged-reached : (key : List ℕ) (me : ℕ) (own : Vector) (op : Operation) (reply : Reply) (walk : Walk)
    → broken_base key me own op reply ≡ None → walked key me reply.proofs 1 (begun reply) reply.pending ≡ Ok walk
    → judged key me own op reply ≡ answered key reply.version.version (advanced walk me).version reply.read
unfolding judged
judged-reached key me own op reply walk none came =
    ap (λ (b : Option Notice). unless b (completed key me reply (walked key me reply.proofs 1 (begun reply) reply.pending))) none
    ∙ ap (completed key me reply) came

-- What passes breaks no check, and tells what is due.
pub record JudgedOk (key : List ℕ) (me : ℕ) (own : Vector) (op : Operation) (reply : Reply) (judged : Judged) : Type 0 where
  pub passed : IsPassed key me own op reply
  pub tells : judged ≡ told me reply

pub judged-passed : (key : List ℕ) (me : ℕ) (own : Vector) (op : Operation) (reply : Reply) (j : Judged)
    → judged key me own op reply ≡ Ok j → JudgedOk key me own op reply j
unfolding judged
judged-passed key me own op reply j h =
    let version = reply.version.version in
    let parts = unless-parts (broken_base key me own op reply)
    (completed key me reply (walked key me reply.proofs 1 (begun reply) reply.pending)) j h in
    let base = base-holds key me own op reply parts.unbroken in
    let kept = and_parts _ _ base.third in
    let done = completed-parts key me reply (walked key me reply.proofs 1 (begun reply) reply.pending) j parts.given in
    let along = walked-passed key me reply.proofs 1 (begun reply) reply.pending done.walk done.came in
    let at_end : answered key version (next_of me reply) reply.read ≡ Ok j =
    subst (λ (w : Walk). answered key version (advanced w me).version reply.read ≡ Ok j) along.ends done.answers in
    let last = answered-passed key version (next_of me reply) reply.read j at_end in
    record {
      passed = record {
        part_fits = base.first;
        known_right = base.second;
        own_at_most = (is_at_most-means own version).0 kept.0;
        own_counted = eqb-true _ _ kept.1;
        tuples_passed = along.passed;
        part_passed = last.passed;
      };
      tells = last.tells;
    }

-- What breaks no check passes.
pub judged-from : (key : List ℕ) (me : ℕ) (own : Vector) (op : Operation) (reply : Reply) → IsPassed key me own op reply
    → judged key me own op reply ≡ Ok (told me reply)
unfolding judged
judged-from key me own op reply h =
    unless-from (broken_base key me own op reply) (completed key me reply (walked key me reply.proofs 1 (begun reply) reply.pending))
    (told me reply) (base-unbroken key me own op reply h)
    (ap (completed key me reply) (walked-from key me reply.proofs 1 (begun reply) reply.pending h.tuples_passed)
    ∙ answered-from key reply.version.version (next_of me reply) reply.read h.part_passed)
