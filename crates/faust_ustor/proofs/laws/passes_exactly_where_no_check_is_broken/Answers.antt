use Rattle.faust_ustor.proofs.Passes.{judged-from, judged-passed}
use Rattle.faust_ustor.proofs.laws.passes_exactly_where_no_check_is_broken.Goals as goal

pub returns-clause-passed : goal.returns-clause-passed
returns-clause-passed c key me own op reply answer h = (judged-passed key me own op reply answer h).passed

pub returns-clause-told : goal.returns-clause-told
returns-clause-told c key me own op reply answer h = (judged-passed key me own op reply answer h).tells

pub returns-clause-taken : goal.returns-clause-taken
returns-clause-taken c key me own op reply h = judged-from key me own op reply h
