use Rattle.faust_names.proofs.Cutting.{right-linear}
use Rattle.faust_names.proofs.laws.cuts_that_cover_all_are_linearizations.Goals as goal

pub returns : goal.returns
returns c = right-linear
