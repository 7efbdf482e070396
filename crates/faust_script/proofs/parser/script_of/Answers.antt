use Rattle.std.proofs.Common.{◌≡◌, ap, sym, ◌∙◌, subst, arith, Result, Err}
use Rattle.faust_text.specs.Lines.{lines_of}
use Rattle.faust_script.specs.declared.script.Script.{Script}
use Rattle.faust_script.specs.Parsing.{Parses, Refusal, finished, lines_from, parsed}
use Rattle.faust_script.proofs.ParseLaws.{line_taken, line_refused, lines_ended}
use Rattle.faust_script.proofs.parser.script_of.Goals as goal

pub loop-line-init : goal.loop-line-init
unfolding parsed
loop-line-init c = record {
  counted = omega arith;
  within = omega arith;
  so_far = ap (λ st. lines_from st 1 (lines_of c.args.input.now)) c.start-stage.ensures;
}

pub returns-in-Err : goal.returns-in-Err
returns-in-Err c =
    subst (λ e. Parses (Err e) (parsed c.args.input.now)) (sym c.refused.ensures)
    (line_refused c.args.input.now c.loop-line.from c.loop-line.number c.in-Some.line c.loop-line.stage c.in-Err.error c.in-Some.ensures
    c.in-Err.ensures c.loop-line.invariant.so_far)

pub loop-line-preserved : goal.loop-line-preserved
loop-line-preserved c = record {
  counted = omega (arith, c.in-Some.ensures.not_before);
  within = omega (arith, c.in-Some.ensures.within);
  so_far =
      sym (line_taken c.args.input.now c.loop-line.from c.loop-line.number c.in-Some.line c.loop-line.stage c.in-Ok.stage
      c.in-Some.ensures c.in-Ok.ensures) ∙ c.loop-line.invariant.so_far;
}

pub returns : goal.returns
returns c =
    let left : finished c.loop-line.stage c.loop-line.number ≡ parsed c.args.input.now =
    sym (lines_ended c.args.input.now c.loop-line.from c.loop-line.number c.loop-line.stage c.in_default.ensures)
    ∙ c.loop-line.invariant.so_far in
    subst (λ (due : Result Script Refusal). Parses c.finish.result due) left c.finish.ensures
