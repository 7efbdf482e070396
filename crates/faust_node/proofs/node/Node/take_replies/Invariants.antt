use Rattle.std.proofs.Common.{◌≡◌}
use Rattle.faust_node.proofs.node.Node.take_replies.Given as goal

abbrev pub invariant-loop : goal.invariant-loop
invariant-loop g l = (g.I.FrameIn.ends l.link ≡ g.I.FrameIn.ends l.fn.link) × (g.I.FrameIn.faults l.link ≡ g.I.FrameIn.faults l.fn.link)
