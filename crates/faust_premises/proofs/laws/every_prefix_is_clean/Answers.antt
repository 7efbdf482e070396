use Rattle.faust_premises.proofs.Fronts.{front-clean}
use Rattle.faust_premises.proofs.laws.every_prefix_is_clean.Goals as goal

pub returns : goal.returns
returns c = front-clean
