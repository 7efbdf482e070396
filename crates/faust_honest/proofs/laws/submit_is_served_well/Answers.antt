use Rattle.faust_honest.proofs.Rides.{submitted-well}
use Rattle.faust_honest.proofs.laws.submit_is_served_well.Goals as goal

pub returns : goal.returns
returns c = submitted-well
