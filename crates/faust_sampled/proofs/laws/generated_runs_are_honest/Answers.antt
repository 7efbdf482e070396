use Rattle.faust_sampled.proofs.Playing.{played-honestly}
use Rattle.faust_sampled.proofs.laws.generated_runs_are_honest.Goals as goal

pub returns-clause-stays : goal.returns-clause-stays
returns-clause-stays c = λ seed n ops run size plays. (played-honestly seed n ops run size plays).0

pub returns-clause-unforged : goal.returns-clause-unforged
returns-clause-unforged c = λ seed n ops run size plays. (played-honestly seed n ops run size plays).1

pub returns-clause-well_given : goal.returns-clause-well_given
returns-clause-well_given c = λ seed n ops run size plays. (played-honestly seed n ops run size plays).2
