use Rattle.std.proofs.Common.{◌<◌, ◌++◌, List, option_to_list, Option, take, length, sym, ap, ◌∙◌, subst, arith}
use Rattle.faust_types.specs.declared.config.Config.{Config}
use Rattle.faust_types.specs.declared.operation.OpName.{OpName}
use Rattle.faust_record.specs.declared.entry.Entry.{Entry}
use Rattle.faust_record.proofs.Fed.{IsAt}
use Rattle.faust_audit.specs.Completing.{AreCompleted}
use Rattle.faust_audit.specs.Findings.{order_among, ordered_at}
use Rattle.faust_audit.proofs.Following.{at-read, client-read}
use Rattle.faust_audit.proofs.Gathering.{order-more}
use Rattle.faust_audit.proofs.ordering.order.Goals as goal

pub ordered_at-requires-clause-client : goal.ordered_at-requires-clause-client
ordered_at-requires-clause-client c =
    let rec = c.args.rec.now in
    let inside : c.loop-q.q < length rec.entries = omega (arith, c.loop-q-test.true, c.len-q-end.ensures) in
    client-read c.config-config.result.now rec.config rec.entries c.loop-q.q c.entry_at-entry.result.now c.config-config.ensures.config
    c.config-config.ensures.kept inside c.entry_at-entry.ensures

pub loop-q-preserved : goal.loop-q-preserved
loop-q-preserved c =
    let rec = c.args.rec.now in
    let q = c.loop-q.q in
    let e : Entry = c.entry_at-entry.result.now in
    let inside : q < length rec.entries = omega (arith, c.loop-q-test.true, c.len-q-end.ensures) in
    let at : IsAt rec.entries q e = at-read rec.entries q e inside c.entry_at-entry.ensures in
    let done : AreCompleted c.config-config.result.now.clients rec.entries c.in_ok-completed.completed =
    subst (λ (k : Config). AreCompleted k.clients rec.entries c.in_ok-completed.completed) (sym c.config-config.ensures.config)
    c.in_ok-completed.ensures in
    let name = c.in_ok-name.ensures rec.entries done
    ∙ ap (λ (k : Config). ordered_at k rec.entries e) c.config-config.ensures.config in
    c.in_ok-put_name.ensures
    ∙ ap (λ (l : List OpName). l ++ option_to_list c.in_ok-name.name) c.loop-q.invariant
    ∙ ap (λ (o : Option OpName). order_among rec.config rec.entries (take q rec.entries) ++ option_to_list o) name
    ∙ sym (order-more rec.config rec.entries (take q rec.entries) e)
    ∙ ap (order_among rec.config rec.entries) (sym at.more)
