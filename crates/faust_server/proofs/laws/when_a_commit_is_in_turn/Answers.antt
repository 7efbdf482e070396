use Rattle.faust_server.proofs.Rows.{committed-taken, committed-refused}
use Rattle.faust_server.proofs.laws.when_a_commit_is_in_turn.Goals as goal

pub returns-clause-taken : goal.returns-clause-taken
returns-clause-taken c = committed-taken

pub returns-clause-refused : goal.returns-clause-refused
returns-clause-refused c = committed-refused
