use Rattle.faust_text.proofs.LineLaws.{lines_are}
use Rattle.faust_text.proofs.laws.lines_are_the_input.Goals as goal

pub returns-clause-exactly : goal.returns-clause-exactly
returns-clause-exactly c = lines_are
