use Rattle.faust_premises.proofs.Forgeries.{right-pairs-made}
use Rattle.faust_premises.proofs.laws.right_tags_are_of_made_bodies.Goals as goal

pub returns : goal.returns
returns c = λ config front rest entry pair is_clean has right. right-pairs-made config front rest entry pair is_clean.no_forgery has right
