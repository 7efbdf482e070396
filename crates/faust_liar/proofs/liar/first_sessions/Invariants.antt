use Rattle.std.proofs.Common.{◌≡◌, replicate}
use Rattle.faust_liar.specs.Lies.{first_session}
use Rattle.faust_liar.proofs.liar.first_sessions.Given as goal

abbrev pub invariant-loop : goal.invariant-loop
invariant-loop l = l.sessions.items ≡ replicate l.counter first_session
