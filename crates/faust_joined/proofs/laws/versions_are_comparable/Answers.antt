use Rattle.faust_joined.proofs.Comparing.{versions-comparable}
use Rattle.faust_joined.proofs.laws.versions_are_comparable.Goals as goal

pub returns : goal.returns
returns c = λ config entries run made none. versions-comparable config entries run made none
