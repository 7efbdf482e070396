use Rattle.std.proofs.Common.{subst}
use Rattle.faust_text.specs.Lines.{lines_of}
use Rattle.faust_store.specs.declared.stage.Stage.{Stage}
use Rattle.faust_store.specs.Reading.{Reads, lines_from, read}
use Rattle.faust_store.proofs.reading.run_of.Goals as goal

pub returns : goal.returns
unfolding read
returns c =
    subst (λ (stage : Stage). Reads c.run_from.result (lines_from stage 1 (lines_of c.args.input.now))) c.start.ensures c.run_from.ensures
