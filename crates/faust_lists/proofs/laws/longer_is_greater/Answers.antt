use Rattle.faust_lists.proofs.Versions.{version-same, IsVersionOf-initial, initial-exactly, at_most-tail, comparable-along}
use Rattle.faust_lists.proofs.laws.longer_is_greater.Goals as goal

pub returns-clause-one : goal.returns-clause-one
returns-clause-one c = version-same

pub returns-clause-empty : goal.returns-clause-empty
returns-clause-empty c = IsVersionOf-initial

pub returns-clause-initial : goal.returns-clause-initial
returns-clause-initial c = initial-exactly

pub returns-clause-longer : goal.returns-clause-longer
returns-clause-longer c = at_most-tail

pub returns-clause-comparable : goal.returns-clause-comparable
returns-clause-comparable c = comparable-along
