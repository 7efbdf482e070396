use Rattle.faust_joined.proofs.Running.{notice-after}
use Rattle.faust_joined.proofs.laws.notices_come_after_a_departure.Goals as goal

pub returns : goal.returns
returns c = λ config entries front rest entry notice run made whole given.
    notice-after config entries front rest entry notice run made whole given
