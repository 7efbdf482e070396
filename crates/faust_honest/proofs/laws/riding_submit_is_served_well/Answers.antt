use Rattle.faust_honest.proofs.Rides.{riding-well}
use Rattle.faust_honest.proofs.laws.riding_submit_is_served_well.Goals as goal

pub returns : goal.returns
returns c = riding-well
