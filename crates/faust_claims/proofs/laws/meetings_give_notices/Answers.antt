use Rattle.faust_claims.proofs.Bringing.{meeting-noticed}
use Rattle.faust_claims.proofs.laws.meetings_give_notices.Goals as goal

pub returns : goal.returns
returns c = meeting-noticed
