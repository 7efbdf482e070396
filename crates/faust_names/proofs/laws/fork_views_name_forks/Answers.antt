use Rattle.faust_names.proofs.ForkNames.{fork_view-front, fork_view-names, fork_view-reversed}
use Rattle.faust_names.proofs.laws.fork_views_name_forks.Goals as goal

pub returns-clause-order : goal.returns-clause-order
returns-clause-order c = fork_view-reversed

pub returns-clause-members : goal.returns-clause-members
returns-clause-members c = fork_view-names

pub returns-clause-front : goal.returns-clause-front
returns-clause-front c = fork_view-front
