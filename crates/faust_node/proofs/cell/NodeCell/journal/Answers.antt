use Rattle.std.proofs.Common.{subst}
use Rattle.faust_node.specs.Cells.{IsCell}
use Rattle.faust_node.proofs.cell.NodeCell.journal.Goals as goal

pub returns-clause-kept : goal.returns-clause-kept
returns-clause-kept g c = subst (IsCell g.T.Session.config) c.self.view_is c.self.invariant
