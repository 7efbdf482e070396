use Rattle.faust_held.proofs.Claims.{run-of_completion}
use Rattle.faust_held.proofs.laws.held_versions_are_of_completions.Goals as goal

pub returns : goal.returns
returns c = run-of_completion
