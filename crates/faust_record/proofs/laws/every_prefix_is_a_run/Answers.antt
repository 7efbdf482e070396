use Rattle.faust_record.proofs.Fronts.{front_of_run}
use Rattle.faust_record.proofs.laws.every_prefix_is_a_run.Goals as goal

pub returns : goal.returns
returns c = front_of_run
