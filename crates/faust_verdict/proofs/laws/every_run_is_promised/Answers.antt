use Rattle.faust_verdict.proofs.Promising.{promises-of}
use Rattle.faust_verdict.proofs.laws.every_run_is_promised.Goals as goal

pub returns : goal.returns
returns c = promises-of
