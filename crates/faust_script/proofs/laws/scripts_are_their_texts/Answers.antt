use Rattle.faust_script.proofs.ScriptLaws.{script_texts}
use Rattle.faust_script.proofs.laws.scripts_are_their_texts.Goals as goal

pub returns : goal.returns
returns c = script_texts
