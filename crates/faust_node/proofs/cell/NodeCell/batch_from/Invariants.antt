use Rattle.std.proofs.Common.{◌≡◌, drop}
use Rattle.faust_node.specs.Sending.{posts_in}
use Rattle.faust_node.proofs.cell.NodeCell.batch_from.Given as goal

abbrev pub invariant-loop-at : goal.invariant-loop-at
invariant-loop-at g l = posts_in (drop l.from l.self.log.entries) ≡ posts_in (drop l.at l.self.log.entries)
