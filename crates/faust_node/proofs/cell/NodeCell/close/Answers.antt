use Rattle.std.proofs.Common.{Option, subst, sym}
use Rattle.faust_types.specs.declared.arrival.Closing.{Closing}
use Rattle.faust_node.specs.Cells.{Cell, IsCell}
use Rattle.faust_node.proofs.Kept.{kept-closed}
use Rattle.faust_node.proofs.cell.NodeCell.close.Goals as goal

pub invariant_of-self : goal.invariant_of-self
invariant_of-self g c =
    let cell : Cell = record { log = c.self.inside.journal; seat = c.self.inside.seat; closed = c.self.inside.closed } in
    subst (λ (o : Option Closing). IsCell g.T.Session.config (record cell { closed = o })) (sym c.lasting.ensures)
    (kept-closed g.T.Session.config cell c.args.cause c.self.invariant)
