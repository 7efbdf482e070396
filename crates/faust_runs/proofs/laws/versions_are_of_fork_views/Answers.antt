use Rattle.faust_runs.proofs.Claims.{run-version}
use Rattle.faust_runs.proofs.laws.versions_are_of_fork_views.Goals as goal

pub returns : goal.returns
returns c = run-version
