use Rattle.std.proofs.Common.{◌≡◌, false, replicate, rules}
use Rattle.std.proofs.lemmas.List.{length-replicate}
use Rattle.faust_server.specs.Rows.{first_turn}
use Rattle.faust_host.proofs.Handling.{first_is_cell}
use Rattle.faust_host.proofs.host_cell.HostCell.new.Goals as goal

pub invariant_of-result : goal.invariant_of-result
invariant_of-result g c =
    let named : c.from_vec.result ≡ replicate c.args.n false = search rules in
    first_is_cell
    c.args.n
    c.from_vec.result
    c.in_ok-new.field-0
    c.in_ok-new-2.field-0
    c.args.seat
    c.requires.count
    named
    c.in_ok-new.ensures
    c.in_ok-new-2.ensures.log
    c.in_ok-new-2.ensures.kept
    (length-replicate c.args.n first_turn)
