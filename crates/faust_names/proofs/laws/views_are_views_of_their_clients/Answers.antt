use Rattle.faust_names.proofs.Holding.{view-is}
use Rattle.faust_names.proofs.laws.views_are_views_of_their_clients.Goals as goal

pub returns : goal.returns
returns c = view-is
