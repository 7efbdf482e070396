use Rattle.faust_lists.proofs.Fronts.{upto-tail, count-upto, upto-ends, upto-stable}
use Rattle.faust_lists.proofs.laws.front_up_to_an_operation.Goals as goal

pub returns-clause-front : goal.returns-clause-front
returns-clause-front c = upto-tail

pub returns-clause-counted : goal.returns-clause-counted
returns-clause-counted c = count-upto

pub returns-clause-ends : goal.returns-clause-ends
returns-clause-ends c = upto-ends

pub returns-clause-stable : goal.returns-clause-stable
returns-clause-stable c = upto-stable
