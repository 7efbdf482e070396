use Rattle.faust_text.proofs.HeadLaws.{heads_are, head_faults, head_in_range}
use Rattle.faust_text.proofs.laws.heads_are_their_lines.Goals as goal

pub returns-clause-whole : goal.returns-clause-whole
returns-clause-whole c = heads_are

pub returns-clause-in_range : goal.returns-clause-in_range
returns-clause-in_range c = head_in_range

pub returns-clause-refused : goal.returns-clause-refused
returns-clause-refused c = head_faults
