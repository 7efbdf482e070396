use Rattle.faust_names.proofs.Holding.{view-real_time}
use Rattle.faust_names.proofs.laws.views_keep_weak_real_time.Goals as goal

pub returns : goal.returns
returns c = view-real_time
