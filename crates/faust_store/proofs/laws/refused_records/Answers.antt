use Rattle.faust_store.proofs.RefusalLaws.{refusals_are}
use Rattle.faust_store.proofs.laws.refused_records.Goals as goal

pub returns : goal.returns
returns c = refusals_are
