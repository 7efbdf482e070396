use Rattle.std.proofs.Common.{◌≡◌, ℕ, [], get_or, vec_len}
use Rattle.faust_views.proofs.writes.Writes.new.Given as goal

abbrev pub invariant-loop-client : goal.invariant-loop-client
invariant-loop-client l = (vec_len l.kinds ≡ l._client) × ((k : ℕ) → get_or l.kinds.items k [] ≡ [])
