-- What it is that a reply breaks no check, whatever their order, and what it then tells. The laws rest on it.
use Rattle.std.specs.Prelude.{◌≡◌, ◌≢◌, ℕ, ◌+◌, ◌⊎◌, true, List, [], ◌∷◌, Option, Some, None, IfSome}
use Rattle.faust_types.specs.Versions.{Vector, IsAtMost, timestamp_at}
use Rattle.faust_types.specs.Messages.{value_of}
use Rattle.faust_types.specs.declared.operation.Operation.{Operation}
use Rattle.faust_types.specs.declared.message.Tuple.{Tuple}
use Rattle.faust_types.specs.declared.message.ReadPart.{ReadPart}
use Rattle.faust_types.specs.declared.message.Reply.{Reply}
use Rattle.faust_ustor.specs.declared.judgement.Judged.{Judged}
use Rattle.faust_ustor.specs.declared.walk.Walk.{Walk}
use Rattle.faust_ustor.specs.Checks.{advanced, begun, is_known_right, is_mem_right, is_next_submitted, is_part_for, is_proven, time_of}

-- The walk after one operation of the client of each tuple.
abbrev pub followed : Walk → List Tuple → Walk
followed walk [] = walk
followed walk (tuple ∷ rest) = followed (advanced walk tuple.client) rest

-- The clients of operations, the last one first, after those of the tuples.
abbrev pub clients_after : List ℕ → List Tuple → List ℕ
clients_after clients [] = clients
clients_after clients (tuple ∷ rest) = clients_after (tuple.client ∷ clients) rest

-- The tuple is by another client, which proved its last operation and submitted this one as its next.
pub record IsTuplePassed (key : List ℕ) (me : ℕ) (proofs : List (Option (List ℕ))) (walk : Walk) (tuple : Tuple) : Type 0 where
  pub of_another : tuple.client ≢ me
  pub proven : is_proven key proofs walk.version tuple.client ≡ true
  pub submitted : is_next_submitted key walk.version tuple ≡ true

-- All tuples are, each at the walk that came to it.
abbrev pub AreTuplesPassed : List ℕ → ℕ → List (Option (List ℕ)) → Walk → List Tuple → Type 0
AreTuplesPassed key me proofs walk [] = Unit {0}
AreTuplesPassed key me proofs walk (tuple ∷ rest) =
    IsTuplePassed key me proofs walk tuple × AreTuplesPassed key me proofs (advanced walk tuple.client) rest

-- The register's client made the version and the memory, and the memory is of its last operation.
pub record IsPartPassed (key : List ℕ) (version next : Vector) (part : ReadPart) : Type 0 where
  pub known_right : is_known_right key part.register part.version ≡ true
  pub mem_right : is_mem_right key part.register part.mem ≡ true
  pub latest : time_of part.mem ≡ timestamp_at next part.register
  pub at_most : IsAtMost part.version.version version
  pub recent : (timestamp_at part.version.version part.register ≡ time_of part.mem)
      ⊎ (timestamp_at part.version.version part.register + 1 ≡ time_of part.mem)

-- The version after the operations of the tuples and the own one.
abbrev pub next_of : ℕ → Reply → Vector
next_of me reply = (advanced (followed (begun reply) reply.pending) me).version

-- The reply breaks no check.
pub record IsPassed (key : List ℕ) (me : ℕ) (own : Vector) (op : Operation) (reply : Reply) : Type 0 where
  pub part_fits : is_part_for op.kind op.register reply.read ≡ true
  pub known_right : is_known_right key reply.c reply.version ≡ true
  pub own_at_most : IsAtMost own reply.version.version
  pub own_counted : timestamp_at own me ≡ timestamp_at reply.version.version me
  pub tuples_passed : AreTuplesPassed key me reply.proofs (begun reply) reply.pending
  pub part_passed : IfSome reply.read (IsPartPassed key reply.version.version (next_of me reply))

-- What it tells besides the next version.
abbrev pub told_of : Vector → Option ReadPart → Judged
told_of next None = record { next = next; value = None; asof = 0; heard = None }
told_of next (Some part) = record { next = next; value = value_of part.mem; asof = time_of part.mem; heard = Some part.version }

abbrev pub told : ℕ → Reply → Judged
told me reply = told_of (next_of me reply) reply.read
