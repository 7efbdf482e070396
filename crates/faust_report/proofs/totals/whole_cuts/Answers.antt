use Rattle.std.proofs.Common.{sym, ◌∙◌, arith}
use Rattle.faust_report.proofs.Summed.{none_more, one_more}
use Rattle.faust_report.proofs.totals.whole_cuts.Goals as goal
use Rattle.faust_report.proofs.totals.whole_cuts.Goals.{then-has_whole_cut, else-has_whole_cut}

pub loop-before-preserved : goal.loop-before-preserved
loop-before-preserved c =
    let facts = c.args.facts.now in
    let i = c.loop-before.before in
    let test = sym c.has_whole_cut.ensures in
    elim c.if-has_whole_cut.branch [
      | then-has_whole_cut w ↦
          (w.whole-is ∙ one_more facts i c.loop-before.whole (test ∙ w.if-has_whole_cut.true) c.loop-before.invariant.0, omega arith)
      | else-has_whole_cut w ↦
          (w.whole-is ∙ none_more facts i c.loop-before.whole (test ∙ w.if-has_whole_cut.false) c.loop-before.invariant.0, omega arith)
    ]
