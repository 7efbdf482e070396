use Rattle.std.proofs.Common.{refl}
use Rattle.faust_host.proofs.Growing.{counted_after}
use Rattle.faust_host.proofs.arrival_log.ArrivalLog.append.Goals as goal

pub invariant_of-self-2 : goal.invariant_of-self-2
invariant_of-self-2 g c =
    let here = c.at.ensures 0 in
    counted_after
    c.self.inside.counts
    c.set.new.self
    c.self.inside.arrivals.items
    c.push_reserved.new.self.items
    c.self.inside.seat
    c.draw-number.new.self
    c.args.self.now
    c.args.i
    c.draw-number.result
    c.args.bytes.now
    c.self.view_is
    c.self.invariant
    c.requires.client
    c.requires.room
    (cc)
    (rw (c.push_reserved.ensures.items, c.reserve.ensures.items, c.in_ok-message.ensures) refl)
    c.draw-number.ensures.taken

pub returns-clause-kept : goal.returns-clause-kept
returns-clause-kept g c =
    let here = c.at.ensures 0 in
    let after = counted_after
    c.self.inside.counts
    c.set.new.self
    c.self.inside.arrivals.items
    c.push_reserved.new.self.items
    c.self.inside.seat
    c.draw-number.new.self
    c.args.self.now
    c.args.i
    c.draw-number.result
    c.args.bytes.now
    c.self.view_is
    c.self.invariant
    c.requires.client
    c.requires.room
    (cc)
    (rw (c.push_reserved.ensures.items, c.reserve.ensures.items, c.in_ok-message.ensures) refl)
    c.draw-number.ensures.taken in
    after.numbered
