use Rattle.faust_forks.proofs.Booked.{known-booked, own-booked, booked-history}
use Rattle.faust_forks.proofs.Ordered.{booked-below, booked-comparable}
use Rattle.faust_forks.proofs.laws.right_versions_are_booked.Goals as goal

pub returns-clause-known : goal.returns-clause-known
returns-clause-known c = known-booked

pub returns-clause-own : goal.returns-clause-own
returns-clause-own c = own-booked

pub returns-clause-history : goal.returns-clause-history
returns-clause-history c = booked-history

pub returns-clause-below : goal.returns-clause-below
returns-clause-below c = booked-below

pub returns-clause-comparable : goal.returns-clause-comparable
returns-clause-comparable c = booked-comparable
