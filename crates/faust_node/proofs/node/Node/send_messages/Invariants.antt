use Rattle.std.proofs.Common.{◌≡◌}
use Rattle.faust_node.proofs.node.Node.send_messages.Given as goal

abbrev pub invariant-loop : goal.invariant-loop
invariant-loop g l = g.O.FrameOut.faults l.link ≡ g.O.FrameOut.faults l.fn.link
