use Rattle.faust_ustor.proofs.Stops.{judged-noticed, judged-within}
use Rattle.faust_ustor.proofs.laws.what_is_broken_is_a_check.Goals as goal

pub returns-clause-check : goal.returns-clause-check
returns-clause-check c key me own op reply notice h = judged-noticed key me own op reply notice h

pub returns-clause-from_3 : goal.returns-clause-from_3
returns-clause-from_3 c key me own op reply notice h = (judged-within key me own op reply notice h).from_low

pub returns-clause-to_12 : goal.returns-clause-to_12
returns-clause-to_12 c key me own op reply notice h = (judged-within key me own op reply notice h).to_high
