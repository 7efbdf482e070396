use Rattle.faust_joined.proofs.Linear.{order-linear}
use Rattle.faust_joined.proofs.laws.runs_are_linearizable_by_arrival.Goals as goal

pub returns : goal.returns
returns c = λ config entries run made none. order-linear config entries run made none
