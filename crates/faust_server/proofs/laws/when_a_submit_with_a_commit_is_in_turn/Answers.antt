use Rattle.faust_server.proofs.Rows.{riding-taken, riding-refused, number-refused}
use Rattle.faust_server.proofs.laws.when_a_submit_with_a_commit_is_in_turn.Goals as goal

pub returns-clause-taken : goal.returns-clause-taken
returns-clause-taken c = riding-taken

pub returns-clause-refused : goal.returns-clause-refused
returns-clause-refused c = riding-refused

pub returns-clause-number : goal.returns-clause-number
returns-clause-number c = number-refused
