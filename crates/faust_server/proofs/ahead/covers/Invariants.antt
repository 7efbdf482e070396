use Rattle.std.proofs.Common.{◌≡◌}
use Rattle.faust_server.specs.Ahead.{covers_up_to}
use Rattle.faust_server.proofs.ahead.covers.Given as goal

abbrev pub invariant-loop-before : goal.invariant-loop-before
invariant-loop-before l = l.holds ≡ covers_up_to l.v.timestamps l.w.timestamps l.before
