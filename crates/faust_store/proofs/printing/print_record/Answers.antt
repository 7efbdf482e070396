use Rattle.std.proofs.Common.{◌+◌, ◌++◌, ℕ, List, sym, ap, ◌∙◌, arith}
use Rattle.faust_store.proofs.PrintedText.{text_ended, text_from, text_put, text_skipped}
use Rattle.faust_store.proofs.printing.print_record.Goals.{in-Some+in_ok-put_entry, in_default}
use Rattle.faust_store.proofs.printing.print_record.Goals as goal

pub loop-q-preserved : goal.loop-q-preserved
loop-q-preserved c =
    let version = c.args.version in
    let entries = c.args.run.now.entries in
    let q = c.loop-q.q in
    let rest = text_from version entries (q + 1) in
    elim c.match-entry.branch [
      | in-Some+in_ok-put_entry w ↦
          text_put version entries q w.in-Some.entry.now c.loop-q.text c.match-entry.text (sym w.in-Some.ensures)
          (w.text-is ∙ w.in_ok-put_entry.ensures)
          ∙ c.loop-q.invariant
      | in_default w ↦
          ap (λ (t : List ℕ). t ++ rest) w.text-is
          ∙ (ap (λ (t : List ℕ). c.loop-q.text ++ t) (text_skipped version entries q (sym w.in_default.ensures)) ∙ c.loop-q.invariant)
    ]

pub returns : goal.returns
returns c =
    text_ended c.args.run.now c.args.version c.loop-q.q c.len.result c.loop-q.text c.put_end.new.text c.loop-q.invariant
    (omega (arith, c.loop-q-test.false, c.len-q-end.ensures)) c.len.ensures c.in_ok-put_end.ensures
