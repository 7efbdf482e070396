use Rattle.std.proofs.Common.{◌≡◌}
use Rattle.faust_node.proofs.node.Node.take_datagrams.Given as goal

abbrev pub invariant-loop : goal.invariant-loop
invariant-loop g l = g.I.PostIn.faults l.post ≡ g.I.PostIn.faults l.fn.post
