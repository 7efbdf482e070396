use Rattle.faust_honest.proofs.Rides.{committed-well}
use Rattle.faust_honest.proofs.laws.commit_stays_honest.Goals as goal

pub returns : goal.returns
returns c = committed-well
