use Rattle.std.proofs.Common.{rules, ◌∙◌}
use Rattle.std.proofs.lemmas.List.{take_rest}
use Rattle.faust_io.proofs.Pieces.{Appends-more, prefix_written, on_err}
use Rattle.faust_io.proofs.whole_output.write_whole.Goals as goal

pub returns-in_err-written-clause-err : goal.returns-in_err-written-clause-err
returns-in_err-written-clause-err g c =
    on_err c.from_residual.result
    (prefix_written _ _ _ c.args.text.now c.loop-written.written c.loop-written.invariant.behind c.in_err-written.ensures.bytes)

pub loop-written-preserved : goal.loop-written-preserved
loop-written-preserved g c =
    let took = c.in_ok-written.ensures.bytes in
    record {
      within = search rules;
      kept = c.in_ok-written.ensures.count ∙ c.loop-written.invariant.kept;
      behind = Appends-more _ _ _ c.args.text.now _ c.loop-written.written c.in_ok-written.field-0 (search (rules, take_rest))
          c.loop-written.invariant.behind took.behind;
    }
