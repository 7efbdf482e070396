use Rattle.std.proofs.Common.{◌≡◌, ◌+◌, take, vec_len}
use Rattle.faust_views.specs.Noted.{AreNoted}
use Rattle.faust_views.proofs.writes.Writes.of.Given as goal

abbrev pub invariant-loop-q : goal.invariant-loop-q
invariant-loop-q l = AreNoted l.writes.kinds.items (take l.q l.rec.entries) × (vec_len l.writes.kinds ≡ l.rec.config.clients + 1)
