use Rattle.faust_forks.proofs.Ordered.{below-exactly, comparable-exactly, fork-same}
use Rattle.faust_forks.proofs.laws.versions_are_ordered_as_forks.Goals as goal

pub returns-clause-below : goal.returns-clause-below
returns-clause-below c = below-exactly

pub returns-clause-comparable : goal.returns-clause-comparable
returns-clause-comparable c = comparable-exactly

pub returns-clause-same : goal.returns-clause-same
returns-clause-same c = fork-same
