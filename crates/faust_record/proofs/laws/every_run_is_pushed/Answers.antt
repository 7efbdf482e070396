use Rattle.faust_record.proofs.Again.{entries_are_pushed}
use Rattle.faust_record.proofs.laws.every_run_is_pushed.Goals as goal

pub returns : goal.returns
returns c = entries_are_pushed
