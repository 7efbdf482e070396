use Rattle.std.proofs.Common.{◌≡◌, ◌<◌, ◌==◌, ◌&&◌, false, length, is_some, ap, sym, ◌∙◌, arith}
use Rattle.std.proofs.lemmas.Bool.{ne_eqb}
use Rattle.faust_record.specs.declared.entry.Entry.{Entry}
use Rattle.faust_receipts.specs.Lines.{has_notice}
use Rattle.faust_receipts.proofs.Stopping.{and-not-left, and-not-right, notice-found, notice-passed}
use Rattle.faust_receipts.proofs.shortage.has_notice.Goals as goal
use Rattle.faust_receipts.proofs.shortage.has_notice.Goals.{else-from-client-via-then-from-client+else-is_some, else-from-client-via-else-from-client}

pub returns-then-is_some : goal.returns-then-is_some
returns-then-is_some c =
    let i = c.args.client in
    let all = c.args.rec.now.entries in
    let q = c.loop-q.q in
    let e : Entry = c.entry_at-entry.result.now in
    let within : q < length all = omega (arith, c.loop-q-test.true, c.len-q-end.ensures) in
    notice-found i all q e e within (c.entry_at-entry.ensures e) c.loop-q.invariant (omega (arith, c.from.ensures, c.if-from-client.true))
    (ap is_some (sym c.notice.ensures) ∙ sym c.is_some.ensures ∙ c.if-is_some.true)

pub loop-q-preserved : goal.loop-q-preserved
loop-q-preserved c =
    let i = c.args.client in
    let all = c.args.rec.now.entries in
    let q = c.loop-q.q in
    let e : Entry = c.entry_at-entry.result.now in
    let within : q < length all = omega (arith, c.loop-q-test.true, c.len-q-end.ensures) in
    let other : ((e.client == i) && has_notice e) ≡ false =
    elim c.else-from-client.branch [
      | else-from-client-via-then-from-client+else-is_some v ↦
          and-not-right (e.client == i) (has_notice e) (ap is_some (sym v.notice.ensures) ∙ sym v.is_some.ensures ∙ v.if-is_some.false)
      | else-from-client-via-else-from-client v ↦
          and-not-left (e.client == i) (has_notice e)
          (ne_eqb e.client i (λ same. omega (arith, c.from.ensures, v.if-from-client.false, same)))
    ] in
    notice-passed i all q e e within (c.entry_at-entry.ensures e) c.loop-q.invariant other
