use Rattle.faust_outcome.proofs.WordLaws.{read-form, read-none}
use Rattle.faust_outcome.proofs.words.LiveCommand.of.Goals as goal

pub returns-clause-form : goal.returns-clause-form
returns-clause-form c = read-form _ c.read.result c.read.ensures

pub returns-clause-no_form : goal.returns-clause-no_form
returns-clause-no_form c = read-none _ c.read.result c.read.ensures
