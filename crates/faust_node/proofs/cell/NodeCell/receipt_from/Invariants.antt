use Rattle.faust_node.specs.Receipts.{IsUnansweredUpTo}
use Rattle.faust_node.proofs.cell.NodeCell.receipt_from.Given as goal

abbrev pub invariant-loop-place : goal.invariant-loop-place
invariant-loop-place g l = IsUnansweredUpTo l.self.log.entries l.from l.place l.op
