use Rattle.std.proofs.Common.{◌≡◌, drop}
use Rattle.faust_record.specs.Runs.{sent_in}
use Rattle.faust_node.proofs.cell.NodeCell.message_from.Given as goal

abbrev pub invariant-loop-place : goal.invariant-loop-place
invariant-loop-place g l = sent_in (drop l.from l.self.log.entries) ≡ sent_in (drop l.place l.self.log.entries)
