use Rattle.faust_ustor.proofs.Next.{judged-in_range}
use Rattle.faust_ustor.proofs.laws.what_passes_is_in_range.Goals as goal

pub returns : goal.returns
returns c key me own op reply answer pending h told = judged-in_range key me own op reply answer pending h told
