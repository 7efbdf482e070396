use Rattle.faust_held.proofs.Claims.{announced-right, each-moment-right}
use Rattle.faust_held.proofs.laws.announced_cuts_are_right.Goals as goal

pub returns-clause-announced : goal.returns-clause-announced
returns-clause-announced c = announced-right

pub returns-clause-each_moment : goal.returns-clause-each_moment
returns-clause-each_moment c = each-moment-right
