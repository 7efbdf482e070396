use Rattle.faust_runs.proofs.Claims.{run-views}
use Rattle.faust_runs.proofs.laws.views_are_weak_fork_linearizable.Goals as goal

pub returns : goal.returns
returns c = run-views
