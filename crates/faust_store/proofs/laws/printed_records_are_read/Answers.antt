use Rattle.faust_store.proofs.RoundTrip.{printed_is_record, printed_read}
use Rattle.faust_store.proofs.laws.printed_records_are_read.Goals as goal

pub returns-clause-record_text : goal.returns-clause-record_text
returns-clause-record_text c = printed_is_record

pub returns-clause-read : goal.returns-clause-read
returns-clause-read c = printed_read
