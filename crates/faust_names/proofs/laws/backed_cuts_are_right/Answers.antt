use Rattle.faust_names.proofs.Cutting.{right-cut, right-up_to}
use Rattle.faust_names.proofs.laws.backed_cuts_are_right.Goals as goal

pub returns-clause-up_to : goal.returns-clause-up_to
returns-clause-up_to c = right-up_to

pub returns-clause-whole : goal.returns-clause-whole
returns-clause-whole c = right-cut
