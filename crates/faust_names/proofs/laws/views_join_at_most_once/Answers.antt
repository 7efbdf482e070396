use Rattle.faust_names.proofs.Holding.{views-join}
use Rattle.faust_names.proofs.laws.views_join_at_most_once.Goals as goal

pub returns : goal.returns
returns c = views-join
