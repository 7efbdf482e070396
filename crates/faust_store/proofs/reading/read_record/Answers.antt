use Rattle.faust_store.proofs.RefusalLaws.{answered}
use Rattle.faust_store.proofs.reading.read_record.Goals as goal

pub returns-clause-answer : goal.returns-clause-answer
returns-clause-answer c = answered c.args.input.now c.run_of.result c.run_of.ensures
