use Rattle.faust_server.proofs.Rows.{submitted-after, submitted-refused}
use Rattle.faust_server.proofs.laws.a_riding_commit_comes_first.Goals as goal

pub returns-clause-taken : goal.returns-clause-taken
returns-clause-taken c = submitted-after

pub returns-clause-refused : goal.returns-clause-refused
returns-clause-refused c = submitted-refused
