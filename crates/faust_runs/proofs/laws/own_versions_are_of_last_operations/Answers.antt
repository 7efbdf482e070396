use Rattle.faust_runs.proofs.Splits.{own-version}
use Rattle.faust_runs.proofs.laws.own_versions_are_of_last_operations.Goals as goal

pub returns : goal.returns
returns c = own-version
