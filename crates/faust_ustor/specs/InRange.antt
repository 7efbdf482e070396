-- Which operation a client judges a reply to, and what ranges the walk and the answer keep. The condition and
-- the clause `in_range` of `judge` rest on them.
use Rattle.std.specs.Prelude.{◌≡◌, ℕ, ◌+◌, ◌^◌, ◌<◌, false, IfSome}
use Rattle.faust_types.specs.Clients.{IsClient}
use Rattle.faust_types.specs.Versions.{Vector, clients_of, timestamp_at, is_initial}
use Rattle.faust_types.specs.Ranges.{IsVersionFor, IsValue, IsKnownBy}
use Rattle.faust_types.specs.declared.operation.Operation.{Operation}
use Rattle.faust_ustor.specs.declared.judgement.Judged.{Judged}
use Rattle.faust_ustor.specs.declared.walk.Walk.{Walk}

-- The operation that client me waits for: the one after those that its version counts.
pub record IsPendingOf (me : ℕ) (own : Vector) (op : Operation) : Type 0 where
  pub client_in_range : IsClient (clients_of own) me
  pub number : op.name.t ≡ timestamp_at own me + 1
  pub below : op.name.t < 2 ^ 40

-- A walk of n clients that counts t operations of client me.
pub record IsWalkFor (n me t : ℕ) (walk : Walk) : Type 0 where
  pub version_in_range : IsVersionFor n walk.version
  pub own_kept : timestamp_at walk.version me ≡ t

-- What the reply tells is in range for n clients; the version of the register's client is known by that client.
pub record IsJudgedFor (n register : ℕ) (judged : Judged) : Type 0 where
  pub next_in_range : IsVersionFor n judged.next
  pub next_made : is_initial judged.next ≡ false
  pub value_in_range : IfSome judged.value IsValue
  pub asof_below : judged.asof < 2 ^ 40
  pub heard_known : IfSome judged.heard (IsKnownBy n register)
