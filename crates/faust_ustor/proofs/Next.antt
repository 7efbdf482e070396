-- What a reply tells that passes is in range.
use Rattle.std.proofs.Common.{◌≡◌, ℕ, ◌+◌, ◌^◌, ◌<◌, false, true, List, [], ◌∷◌, Option, Some, None, Ok, IfSome, refl, sym, subst, arith}
use Rattle.std.specs.List.{AllByRecursion}
use Rattle.std.proofs.lemmas.Bool.{and_parts, eqb-true, ltb-true}
use Rattle.faust_types.specs.Clients.{IsClient}
use Rattle.faust_types.specs.Versions.{Vector, clients_of, is_initial, timestamp_at}
use Rattle.faust_types.specs.Ranges.{IsKnownBy, IsMem, IsReadPartFor, IsReplyFor, IsTupleFor, IsVersionFor}
use Rattle.faust_types.specs.declared.operation.Kind.{Kind}
use Rattle.faust_types.specs.declared.operation.Kind.TheVariants.{Write, Read}
use Rattle.faust_types.specs.declared.operation.Operation.{Operation}
use Rattle.faust_types.specs.declared.message.Mem.{Mem}
use Rattle.faust_types.specs.declared.message.ReadPart.{ReadPart}
use Rattle.faust_types.specs.declared.message.Reply.{Reply}
use Rattle.faust_types.specs.declared.message.Tuple.{Tuple}
use Rattle.faust_types.proofs.Messages.{value_of-in_range}
use Rattle.faust_ustor.specs.declared.judgement.Judged.{Judged}
use Rattle.faust_ustor.specs.declared.walk.Walk.{Walk}
use Rattle.faust_ustor.specs.Checks.{advanced, begun, is_part_for, judged, time_of}
use Rattle.faust_ustor.specs.InRange.{IsJudgedFor, IsPendingOf, IsWalkFor}
use Rattle.faust_ustor.specs.Passed.{AreTuplesPassed, IsPassed, followed, next_of, told_of}
use Rattle.faust_ustor.proofs.Passes.{judged-passed}
use Rattle.faust_ustor.proofs.Ranges.{in_range-advanced, not_initial-advanced, walk_for-advanced}

-- A walk over tuples that pass stays in range, and counts no operation of the own client.
pub walk_for-followed : (key : List ℕ) (n me t : ℕ) (proofs : List (Option (List ℕ))) (walk : Walk) (tuples : List Tuple)
    → IsWalkFor n me t walk → IsClient n me → AllByRecursion (IsTupleFor n) tuples → AreTuplesPassed key me proofs walk tuples
    → IsWalkFor n me t (followed walk tuples)
walk_for-followed key n me t proofs walk [] h own all passed = h
walk_for-followed key n me t proofs walk (tuple ∷ rest) h own all passed =
    let room = ltb-true _ _ (and_parts _ _ passed.0.submitted).0 in
    walk_for-followed key n me t proofs (advanced walk tuple.client) rest
    (walk_for-advanced n me t walk tuple.client h all.0.client_in_range own passed.0.of_another room)
    own all.1 passed.1

-- A version of n clients that isn't initial.
pub record IsMadeFor (n : ℕ) (v : Vector) : Type 0 where
  pub in_range : IsVersionFor n v
  pub made : is_initial v ≡ false

-- The next version is in range, where there is room for the own operation.
pub next-in_range : (key : List ℕ) (n me : ℕ) (own : Vector) (op : Operation) (reply : Reply) → IsReplyFor n reply → IsClient n me
    → IsPassed key me own op reply → timestamp_at own me + 1 < 2 ^ 40 → IsMadeFor n (next_of me reply)
next-in_range key n me own op reply h client passed below =
    let version = reply.version.version in
    let start : IsWalkFor n me (timestamp_at version me) (begun reply) =
    record { version_in_range = h.version_known.version_in_range; own_kept = refl } in
    let walk = followed (begun reply) reply.pending in
    let end = walk_for-followed key n me _ reply.proofs (begun reply) reply.pending start client h.pending_in_range passed.tuples_passed in
    let room : timestamp_at walk.version me + 1 < 2 ^ 40 = omega (arith, end.own_kept, passed.own_counted, below) in
    record {
      in_range = in_range-advanced n walk me end.version_in_range client room;
      made = not_initial-advanced n walk me end.version_in_range client;
    }

time-below : (mem : Option Mem) → IfSome mem IsMem → time_of mem < 2 ^ 40
time-below None h = omega arith
time-below (Some mem) h = h.number.below

part-of-register : (kind : Kind) (register : ℕ) (part : ReadPart) → is_part_for kind register (Some part) ≡ true → part.register ≡ register
part-of-register Write register part h = cc
part-of-register Read register part h = eqb-true _ _ h

-- What is told besides the next version is in range.
told-in_range : (n register : ℕ) (kind : Kind) (next : Vector) (read : Option ReadPart) → IsMadeFor n next
    → IfSome read (IsReadPartFor n) → is_part_for kind register read ≡ true → IsJudgedFor n register (told_of next read)
told-in_range n register kind next None made h fits = record {
  next_in_range = made.in_range;
  next_made = made.made;
  value_in_range = tt;
  asof_below = omega arith;
  heard_known = tt;
}
told-in_range n register kind next (Some part) made h fits = record {
  next_in_range = made.in_range;
  next_made = made.made;
  value_in_range = value_of-in_range part.mem h.mem_in_range;
  asof_below = time-below part.mem h.mem_in_range;
  heard_known = subst (λ (k : ℕ). IsKnownBy n k part.version) (part-of-register kind register part fits) h.version_known;
}

-- What is judged to pass is in range.
pub judged-in_range : (key : List ℕ) (me : ℕ) (own : Vector) (op : Operation) (reply : Reply) (answer : Judged)
    → IsPendingOf me own op → IsReplyFor (clients_of own) reply → judged key me own op reply ≡ Ok answer
    → IsJudgedFor (clients_of own) op.register answer
judged-in_range key me own op reply answer pending h told =
    let n = clients_of own in
    let right = judged-passed key me own op reply answer told in
    let below : timestamp_at own me + 1 < 2 ^ 40 = omega (arith, pending.number, pending.below) in
    let made = next-in_range key n me own op reply h pending.client_in_range right.passed below in
    subst (IsJudgedFor n op.register) (sym right.tells)
    (told-in_range n op.register op.kind (next_of me reply) reply.read made h.read_in_range right.passed.part_fits)
