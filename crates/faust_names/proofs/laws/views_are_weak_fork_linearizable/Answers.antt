use Rattle.faust_names.proofs.Holding.{views-hold}
use Rattle.faust_names.proofs.laws.views_are_weak_fork_linearizable.Goals as goal

pub returns : goal.returns
returns c = views-hold
