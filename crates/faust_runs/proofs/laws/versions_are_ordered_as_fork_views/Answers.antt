use Rattle.faust_runs.proofs.Claims.{run-below}
use Rattle.faust_runs.proofs.laws.versions_are_ordered_as_fork_views.Goals as goal

pub returns : goal.returns
returns c = run-below
