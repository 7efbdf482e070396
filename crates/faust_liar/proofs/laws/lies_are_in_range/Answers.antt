use Rattle.faust_liar.proofs.EditsInRange.{lie-range}
use Rattle.faust_liar.proofs.laws.lies_are_in_range.Goals as goal

pub returns : goal.returns
returns c = lie-range
