use Rattle.faust_lists.proofs.Versions.{IsVersionOf-next}
use Rattle.faust_lists.proofs.laws.walk_goes_along_the_history.Goals as goal

pub returns : goal.returns
returns c = IsVersionOf-next
