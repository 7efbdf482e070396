use Rattle.faust_lists.proofs.Orders.{before-sift, sift-before}
use Rattle.faust_lists.proofs.Sifted.{kept-has, has-kept, distinct-sift, names-same}
use Rattle.faust_lists.proofs.laws.names_tell_the_history.Goals as goal

pub returns-clause-members : goal.returns-clause-members
returns-clause-members c = λ keep w a. (kept-has keep w a, has-kept keep w a)

pub returns-clause-once : goal.returns-clause-once
returns-clause-once c = distinct-sift

pub returns-clause-same : goal.returns-clause-same
returns-clause-same c = names-same

pub returns-clause-before : goal.returns-clause-before
returns-clause-before c = λ keep m u w a holds front. (before-sift keep m u w a holds front, sift-before keep m u w a holds front)
