use Rattle.faust_outcome.proofs.ToldLaws.{done-is-well}
use Rattle.faust_outcome.proofs.laws.what_a_done_run_tells.Goals as goal

pub returns : goal.returns
returns c = done-is-well
