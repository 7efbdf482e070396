use Rattle.faust_script.proofs.GoingOn.{answered}
use Rattle.faust_script.proofs.parser.parse.Goals as goal

pub returns-clause-answer : goal.returns-clause-answer
returns-clause-answer c = answered c.args.input.now c.script_of.result c.script_of.ensures
