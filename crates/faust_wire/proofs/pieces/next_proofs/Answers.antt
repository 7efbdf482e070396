use Rattle.std.proofs.Common.{[]}
use Rattle.std.proofs.lemmas.Result.{err_from_is_err_and}
use Rattle.faust_wire.specs.Reading.{next_items, next_optional}
use Rattle.faust_wire.proofs.Loops.{items_go_on, items_stop, items_end}
use Rattle.faust_wire.proofs.pieces.next_proofs.Goals as goal

pub returns-in_err-proof : goal.returns-in_err-proof
returns-in_err-proof c =
    let p = err_from_is_err_and c.from_residual-in_err-proof.result c.from_residual-in_err-proof.ensures.1 in
    let next = next_optional in
    rw (p.1, p.2) (items_stop c.in_err-proof.field-0.0 next c.args.n c.loop.counter c.loop.proofs c.loop.rest.now
    (next_items next c.args.n [] c.args.bytes.now) c.loop-test.true c.in_err-proof.ensures c.loop.invariant)

pub loop-preserved : goal.loop-preserved
loop-preserved c =
    let next = next_optional in
    rw c.in_ok-push.ensures.ok (items_go_on next c.args.n c.loop.counter c.loop.proofs c.loop.rest.now c.in_ok-proof.proof
    c.in_ok-proof.later.now (next_items next c.args.n [] c.args.bytes.now) c.loop-test.true c.in_ok-proof.ensures
    c.loop.invariant)

pub returns : goal.returns
returns c =
    let next = next_optional in
    items_end next c.args.n c.loop.counter c.loop.proofs c.loop.rest.now
    (next_items next c.args.n [] c.args.bytes.now) c.loop-test.false c.loop.invariant
