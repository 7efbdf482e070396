use Rattle.std.proofs.Common.{◌≡◌, ◌<◌, ◌+◌, ℕ, List, cond, take, length, sym, ap, ◌∙◌, arith}
use Rattle.faust_record.specs.Operations.{started_among}
use Rattle.faust_record.specs.declared.entry.Entry.{Entry}
use Rattle.faust_record.proofs.Fed.{IsAt}
use Rattle.std.specs.Prelude.{Bool}
use Rattle.faust_audit.proofs.Following.{at-read}
use Rattle.faust_audit.proofs.Gathering.{begun-more}
use Rattle.faust_audit.proofs.finding.begun_count.Goals as goal
use Rattle.faust_audit.proofs.finding.begun_count.Goals.{then-begins, else-begins}

pub loop-q-preserved : goal.loop-q-preserved
loop-q-preserved c =
    let rec = c.args.rec.now in
    let q = c.loop-q.q in
    let e : Entry = c.entry_at.result.now in
    let inside : q < length rec.entries = omega (arith, c.loop-q-test.true, c.len-q-end.ensures) in
    let at : IsAt rec.entries q e = at-read rec.entries q e inside c.entry_at.ensures in
    let count : Bool → ℕ = λ b. cond b 1 0 in
    let more : length (started_among (take (q + 1) rec.entries)) ≡ length (started_among (take q rec.entries)) + count c.begins.result =
    ap (λ (l : List Entry). length (started_among l)) at.more ∙ begun-more (take q rec.entries) e
    ∙ ap (λ (b : Bool). length (started_among (take q rec.entries)) + count b) (sym c.begins.ensures) in
    elim c.if-begins.branch [
      | then-begins w ↦
          let one : count c.begins.result ≡ 1 = ap count w.if-begins.true in
          (omega (arith, w.begun-is, more, one, c.loop-q.invariant.0), omega (arith, w.begun-is, c.loop-q.invariant.1))
      | else-begins w ↦
          let none : count c.begins.result ≡ 0 = ap count w.if-begins.false in
          (omega (arith, w.begun-is, more, none, c.loop-q.invariant.0), omega (arith, w.begun-is, c.loop-q.invariant.1))
    ]
