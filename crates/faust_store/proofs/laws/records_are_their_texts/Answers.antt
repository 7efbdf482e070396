use Rattle.faust_store.proofs.RecordLaws.{record_texts}
use Rattle.faust_store.proofs.laws.records_are_their_texts.Goals as goal

pub returns : goal.returns
returns c = record_texts
