use Rattle.faust_names.proofs.Staying.{view-members, view-order}
use Rattle.faust_names.proofs.laws.views_are_what_stays_of_fork_views.Goals as goal

pub returns-clause-members : goal.returns-clause-members
returns-clause-members c = view-members

pub returns-clause-order : goal.returns-clause-order
returns-clause-order c = view-order
