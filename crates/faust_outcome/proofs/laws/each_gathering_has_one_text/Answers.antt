use Rattle.faust_outcome.specs.Deciding.{output_of}
use Rattle.faust_outcome.proofs.OutcomeLaws.{gathered-has, one-text}
use Rattle.faust_outcome.proofs.laws.each_gathering_has_one_text.Goals as goal

pub returns-clause-some : goal.returns-clause-some
returns-clause-some c = λ command it. ((output_of command it).status, (output_of command it).text, gathered-has command it)

pub returns-clause-one : goal.returns-clause-one
returns-clause-one c = one-text
