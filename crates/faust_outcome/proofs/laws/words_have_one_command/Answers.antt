use Rattle.faust_outcome.proofs.WordLaws.{one_command}
use Rattle.faust_outcome.proofs.laws.words_have_one_command.Goals as goal

pub returns : goal.returns
returns c = one_command
