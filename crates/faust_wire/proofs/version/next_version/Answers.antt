use Rattle.std.proofs.Common.{◌≡◌, ◌+◌, ◌∙◌}
use Rattle.std.proofs.lemmas.Result.{err_from_is_err_and}
use Rattle.faust_types.specs.Versions.{clients_of}
use Rattle.faust_wire.specs.Reading.{next_version, entered}
use Rattle.faust_wire.proofs.Loops.{clients_of-entered, entries_go_on, entries_stop_at_timestamp, entries_stop_at_digest, entries_end}
use Rattle.faust_wire.proofs.version.next_version.Goals as goal

pub returns-in_err-t : goal.returns-in_err-t
returns-in_err-t c =
    let p = err_from_is_err_and c.from_residual-in_err-t.result c.from_residual-in_err-t.ensures.1 in
    let l = c.loop-before in
    rw (p.1, p.2) (entries_stop_at_timestamp c.in_err-t.field-0.0 c.args.n l.before l.version l.timestamps.now l.digests.now
    (next_version c.args.n c.args.bytes.now) c.loop-before-test.true c.in_err-t.ensures.value l.invariant.1)

pub returns-in_err-digest : goal.returns-in_err-digest
returns-in_err-digest c =
    let p = err_from_is_err_and c.from_residual-in_err-digest.result c.from_residual-in_err-digest.ensures.1 in
    let l = c.loop-before in
    rw (p.1, p.2) (entries_stop_at_digest c.in_err-digest.field-0.0 c.args.n l.before l.version l.timestamps.now l.digests.now
    c.in_ok-t.t c.in_ok-t.later_timestamps.now
    (next_version c.args.n c.args.bytes.now) c.loop-before-test.true c.in_ok-t.ensures.value c.in_err-digest.ensures.value
    l.invariant.1)

pub loop-before-preserved : goal.loop-before-preserved
loop-before-preserved c =
    let l = c.loop-before in
    let so_far = entries_go_on c.args.n l.before l.version l.timestamps.now l.digests.now c.in_ok-t.t
    c.in_ok-t.later_timestamps.now c.in_ok-digest.digest c.in_ok-digest.later_digests.now
    (next_version c.args.n c.args.bytes.now) c.loop-before-test.true c.in_ok-t.ensures.value c.in_ok-digest.ensures.value
    l.invariant.1 in
    let sized : clients_of (entered l.version (l.before + 1) c.in_ok-t.t c.in_ok-digest.digest) ≡ c.args.n =
    clients_of-entered l.version (l.before + 1) c.in_ok-t.t c.in_ok-digest.digest ∙ l.invariant.0 in
    rw c.enter.ensures (sized, so_far)

pub returns : goal.returns
returns c =
    let l = c.loop-before in
    entries_end c.args.n l.before l.version l.timestamps.now l.digests.now
    (next_version c.args.n c.args.bytes.now) c.loop-before-test.false l.invariant.1
