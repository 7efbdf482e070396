use Rattle.faust_agent.proofs.Reasons.{deed-tells}
use Rattle.faust_agent.proofs.laws.deeds_tell_why.Goals as goal

pub returns : goal.returns
returns c = deed-tells
