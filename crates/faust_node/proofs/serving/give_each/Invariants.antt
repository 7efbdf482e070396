use Rattle.std.proofs.Common.{◌≡◌}
use Rattle.faust_node.proofs.serving.give_each.Given as goal

abbrev pub invariant-loop-each : goal.invariant-loop-each
invariant-loop-each g l = g.O.PostOut.faults l.post ≡ g.O.PostOut.faults l.fn.post
