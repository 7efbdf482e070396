use Rattle.faust_script.proofs.InRangeLaws.{script_in_range}
use Rattle.faust_script.proofs.laws.scripts_are_in_range.Goals as goal

pub returns : goal.returns
returns c = script_in_range
