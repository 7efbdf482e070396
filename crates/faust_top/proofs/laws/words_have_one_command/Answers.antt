use Rattle.faust_top.proofs.CommandLaws.{one_command}
use Rattle.faust_top.proofs.laws.words_have_one_command.Goals as goal

pub returns : goal.returns
returns c = one_command
