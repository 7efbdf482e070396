use Rattle.faust_held.proofs.Claims.{run-completed, run-sent}
use Rattle.faust_held.proofs.laws.given_versions_are_comparable.Goals as goal

pub returns-clause-completed : goal.returns-clause-completed
returns-clause-completed c = run-completed

pub returns-clause-sent : goal.returns-clause-sent
returns-clause-sent c = run-sent
