use Rattle.std.proofs.Common.{◌≡◌}
use Rattle.faust_node.proofs.node.Node.send_posts.Given as goal

abbrev pub invariant-loop : goal.invariant-loop
invariant-loop g l = g.O.PostOut.faults l.post ≡ g.O.PostOut.faults l.fn.post
