use Rattle.std.proofs.Common.{◌≡◌, refl, sym, ◌∙◌, subst, arith, Result, Err}
use Rattle.faust_text.specs.Lines.{lines_of}
use Rattle.faust_record.specs.Runs.{Run}
use Rattle.faust_store.specs.Reading.{Reads, Refusal, finished, lines_from}
use Rattle.faust_store.proofs.ReadLaws.{line_taken, line_refused, lines_ended}
use Rattle.faust_store.proofs.reading.run_from.Goals as goal

pub loop-line-init : goal.loop-line-init
loop-line-init c = record {
  in_range = c.requires.stage;
  counted = omega arith;
  within = omega arith;
  so_far = refl;
}

pub returns-in-Err : goal.returns-in-Err
returns-in-Err c =
    let due = lines_from c.args.start c.args.first (lines_of c.args.input.now) in
    subst (λ e. Reads (Err e) due) (sym c.refused.ensures)
    (line_refused c.args.input.now c.loop-line.from c.loop-line.number c.in-Some.line c.loop-line.stage c.in-Err.error due c.in-Some.ensures
    c.in-Err.ensures.gives c.loop-line.invariant.so_far)

pub loop-line-preserved : goal.loop-line-preserved
loop-line-preserved c = record {
  in_range = c.in-Ok.ensures.stage;
  counted = omega (arith, c.in-Some.ensures.not_before, c.loop-line.invariant.counted);
  within = omega (arith, c.in-Some.ensures.within);
  so_far =
      sym (line_taken c.args.input.now c.loop-line.from c.loop-line.number c.in-Some.line c.loop-line.stage c.in-Ok.stage
      c.in-Some.ensures c.in-Ok.ensures.gives) ∙ c.loop-line.invariant.so_far;
}

pub returns : goal.returns
returns c =
    let due = lines_from c.args.start c.args.first (lines_of c.args.input.now) in
    let left : finished c.loop-line.stage c.loop-line.number ≡ due =
    sym (lines_ended c.args.input.now c.loop-line.from c.loop-line.number c.loop-line.stage c.in_default.ensures)
    ∙ c.loop-line.invariant.so_far in
    subst (λ (d : Result Run Refusal). Reads c.finish.result d) left c.finish.ensures
