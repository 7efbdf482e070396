use Rattle.std.proofs.Common.{◌≡◌}
use Rattle.faust_node.proofs.node.Node.complete.Given as goal

abbrev pub invariant-loop : goal.invariant-loop
invariant-loop g l = l.input ≡ l.fn.input
