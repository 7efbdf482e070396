use Rattle.faust_held.proofs.Claims.{run-comparable}
use Rattle.faust_held.proofs.laws.held_versions_are_comparable.Goals as goal

pub returns : goal.returns
returns c = run-comparable
