use Rattle.faust_held.proofs.Claims.{run-linear}
use Rattle.faust_held.proofs.laws.cuts_that_cover_all_are_linearizations.Goals as goal

pub returns : goal.returns
returns c = run-linear
