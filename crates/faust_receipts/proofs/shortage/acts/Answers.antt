use Rattle.std.proofs.Common.{◌≡◌, ◌<◌, ◌==◌, ◌&&◌, false, length, sym, ◌∙◌, arith}
use Rattle.std.specs.Prelude.{is_none}
use Rattle.std.proofs.lemmas.Bool.{ne_eqb}
use Rattle.faust_record.specs.Runs.{arriving}
use Rattle.faust_record.specs.declared.entry.Entry.{Entry}
use Rattle.faust_receipts.proofs.Stopping.{act-counts, and-not-left, and-not-right, other-counts}
use Rattle.faust_receipts.proofs.shortage.acts.Goals as goal
use Rattle.faust_receipts.proofs.shortage.acts.Goals.{then-from-client+then-is_act, else-from-client, else-from-client-via-then-from-client+else-is_act, else-from-client-via-else-from-client}

pub loop-q-preserved : goal.loop-q-preserved
loop-q-preserved c =
    let i = c.args.client in
    let all = c.args.rec.now.entries in
    let q = c.loop-q.q in
    let e : Entry = c.entry_at-entry.result.now in
    let within : q < length all = omega (arith, c.loop-q-test.true, c.len-q-end.ensures) in
    elim c.if-from-client.branch [
      | then-from-client+then-is_act w ↦
          act-counts i all q e e c.loop-q.acts c.if-from-client.acts within (c.entry_at-entry.ensures e) c.loop-q.invariant.0
          c.loop-q.invariant.1 (omega (arith, c.from.ensures, w.if-from-client.true)) (sym w.is_act.ensures ∙ w.if-is_act.true) w.acts-is
      | else-from-client w ↦
          let other : ((e.client == i) && is_none (arriving e.input)) ≡ false =
          elim w.else-from-client.branch [
            | else-from-client-via-then-from-client+else-is_act v ↦
                and-not-right (e.client == i) (is_none (arriving e.input)) (sym v.is_act.ensures ∙ v.if-is_act.false)
            | else-from-client-via-else-from-client v ↦
                and-not-left (e.client == i) (is_none (arriving e.input))
                (ne_eqb e.client i (λ same. omega (arith, c.from.ensures, v.if-from-client.false, same)))
          ] in
          other-counts i all q e e c.loop-q.acts c.if-from-client.acts within (c.entry_at-entry.ensures e) c.loop-q.invariant.0
          c.loop-q.invariant.1 other w.acts-is
    ]
