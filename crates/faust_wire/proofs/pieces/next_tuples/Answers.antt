use Rattle.std.proofs.Common.{[]}
use Rattle.std.proofs.lemmas.Result.{err_from_is_err_and}
use Rattle.faust_wire.specs.Reading.{next_items, next_tuple}
use Rattle.faust_wire.proofs.Loops.{items_go_on, items_stop, items_end}
use Rattle.faust_wire.proofs.pieces.next_tuples.Goals as goal

pub returns-in_err-tuple : goal.returns-in_err-tuple
returns-in_err-tuple c =
    let p = err_from_is_err_and c.from_residual-in_err-tuple.result c.from_residual-in_err-tuple.ensures.1 in
    let next = next_tuple c.args.n in
    rw (p.1, p.2) (items_stop c.in_err-tuple.field-0.0 next c.args.count c.loop.counter c.loop.tuples c.loop.rest.now
    (next_items next c.args.count [] c.args.bytes.now) c.loop-test.true c.in_err-tuple.ensures c.loop.invariant)

pub loop-preserved : goal.loop-preserved
loop-preserved c =
    let next = next_tuple c.args.n in
    rw c.in_ok-push.ensures.ok (items_go_on next c.args.count c.loop.counter c.loop.tuples c.loop.rest.now c.in_ok-tuple.tuple
    c.in_ok-tuple.later.now (next_items next c.args.count [] c.args.bytes.now) c.loop-test.true c.in_ok-tuple.ensures
    c.loop.invariant)

pub returns : goal.returns
returns c =
    let next = next_tuple c.args.n in
    items_end next c.args.count c.loop.counter c.loop.tuples c.loop.rest.now
    (next_items next c.args.count [] c.args.bytes.now) c.loop-test.false c.loop.invariant
