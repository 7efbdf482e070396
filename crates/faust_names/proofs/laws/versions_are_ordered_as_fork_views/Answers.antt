use Rattle.faust_names.proofs.Telling.{fork_view-below}
use Rattle.faust_names.proofs.laws.versions_are_ordered_as_fork_views.Goals as goal

pub returns : goal.returns
returns c = fork_view-below
