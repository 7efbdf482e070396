use Rattle.faust_forks.proofs.Answering.{completion-answered, answered-begun, answered-completed}
use Rattle.faust_forks.proofs.laws.reads_answer_what_was_written.Goals as goal

pub returns-clause-read : goal.returns-clause-read
returns-clause-read c = completion-answered

pub returns-clause-begins : goal.returns-clause-begins
returns-clause-begins c = answered-begun

pub returns-clause-completes : goal.returns-clause-completes
returns-clause-completes c = answered-completed
