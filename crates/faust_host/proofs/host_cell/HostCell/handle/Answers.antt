use Rattle.faust_host.proofs.Handling.{cell_after}
use Rattle.faust_host.proofs.host_cell.HostCell.handle.Goals as goal

pub invariant_of-self-2 : goal.invariant_of-self-2
invariant_of-self-2 g c =
    cell_after
    _
    c.args.self.now
    c.clients.result
    c.args.i
    c.args.bytes.now
    c.in-Ok.ensures.ok.0
    c.in_ok-request.request
    (record { state = c.in_ok-tried.tried.server; reply = c.in_ok-tried.tried.reply })
    c.settle.new.self
    c.append.new.self
    c.self.view_is
    c.self.invariant
    c.clients.ensures.count
    c.in_ok-request.ensures.asked
    c.in_ok-tried.ensures.due
    c.in_ok-tried.ensures.count
    (c.settle.ensures.after)
    c.in-Ok.ensures.ok.1
    c.append.ensures.kept
