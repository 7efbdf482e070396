use Rattle.faust_runs.proofs.Splits.{version-stays, view-stays}
use Rattle.faust_runs.proofs.laws.fork_views_stay.Goals as goal

pub returns-clause-view : goal.returns-clause-view
returns-clause-view c = view-stays

pub returns-clause-version : goal.returns-clause-version
returns-clause-version c = version-stays
