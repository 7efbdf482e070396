use Rattle.faust_lists.proofs.Tails.{tail-linear}
use Rattle.faust_lists.proofs.laws.fronts_stand_in_line.Goals as goal

pub returns : goal.returns
returns c = tail-linear
