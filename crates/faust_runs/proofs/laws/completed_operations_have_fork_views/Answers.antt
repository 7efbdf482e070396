use Rattle.faust_runs.proofs.Claims.{run-last, run-viewed}
use Rattle.faust_runs.proofs.laws.completed_operations_have_fork_views.Goals as goal

pub returns-clause-exactly : goal.returns-clause-exactly
returns-clause-exactly c = run-viewed

pub returns-clause-last : goal.returns-clause-last
returns-clause-last c = run-last
