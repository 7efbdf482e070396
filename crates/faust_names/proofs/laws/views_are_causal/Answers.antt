use Rattle.faust_names.proofs.Holding.{view-causal}
use Rattle.faust_names.proofs.laws.views_are_causal.Goals as goal

pub returns : goal.returns
returns c = view-causal
