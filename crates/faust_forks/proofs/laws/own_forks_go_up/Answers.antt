use Rattle.faust_forks.proofs.Ordered.{own-front}
use Rattle.faust_forks.proofs.laws.own_forks_go_up.Goals as goal

pub returns : goal.returns
returns c = own-front
