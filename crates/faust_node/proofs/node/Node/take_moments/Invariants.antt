use Rattle.std.proofs.Common.{◌≡◌}
use Rattle.faust_node.proofs.node.Node.take_moments.Given as goal

abbrev pub invariant-loop : goal.invariant-loop
invariant-loop g l = g.C.Clock.ends l.clock ≡ g.C.Clock.ends l.fn.clock
