use Rattle.faust_top.specs.Output.{output_of}
use Rattle.faust_top.proofs.OutputLaws.{has_output, one_output}
use Rattle.faust_top.proofs.laws.each_input_has_one_text.Goals as goal

pub returns-clause-some : goal.returns-clause-some
returns-clause-some c = λ command input range.
    ((output_of command input).status, (output_of command input).text, has_output command input range)

pub returns-clause-one : goal.returns-clause-one
returns-clause-one c = one_output
