use Rattle.faust_store.proofs.RecordLaws.{few_read, key_read, run_read}
use Rattle.faust_store.proofs.laws.records_are_runs.Goals as goal

pub returns-clause-run : goal.returns-clause-run
returns-clause-run c = run_read

pub returns-clause-few : goal.returns-clause-few
returns-clause-few c = few_read

pub returns-clause-bytes : goal.returns-clause-bytes
returns-clause-bytes c = key_read
