use Rattle.faust_ticket.proofs.Once.{is_found, are_apart, are_below, count_is}
use Rattle.faust_ticket.proofs.laws.each_number_once.Goals as goal

pub returns-clause-found : goal.returns-clause-found
returns-clause-found c = is_found

pub returns-clause-apart : goal.returns-clause-apart
returns-clause-apart c = are_apart

pub returns-clause-below : goal.returns-clause-below
returns-clause-below c = are_below

pub returns-clause-count : goal.returns-clause-count
returns-clause-count c = count_is
