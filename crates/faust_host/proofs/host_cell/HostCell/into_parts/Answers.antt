use Rattle.faust_host.proofs.Handling.{served_parts}
use Rattle.faust_host.proofs.host_cell.HostCell.into_parts.Goals as goal

pub returns-clause-kept : goal.returns-clause-kept
returns-clause-kept g c = served_parts _ c.args.self _ _ c.self.view_is c.self.invariant c.into_parts.ensures.arrivals
    c.into_parts.ensures.seat
