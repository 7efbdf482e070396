use Rattle.faust_honest.proofs.First.{first-honest}
use Rattle.faust_honest.proofs.laws.first_state_is_honest.Goals as goal

pub returns : goal.returns
returns c = first-honest
