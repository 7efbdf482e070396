use Rattle.faust_text.proofs.HeadPrints.{printed_heads_are, printed_heads_lines}
use Rattle.faust_text.proofs.laws.printed_heads_are_read.Goals as goal

pub returns-clause-spelled : goal.returns-clause-spelled
returns-clause-spelled c = printed_heads_are

pub returns-clause-lines : goal.returns-clause-lines
returns-clause-lines c = printed_heads_lines
