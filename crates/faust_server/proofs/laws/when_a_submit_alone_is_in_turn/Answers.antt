use Rattle.faust_server.proofs.Rows.{alone-taken, alone-refused}
use Rattle.faust_server.proofs.laws.when_a_submit_alone_is_in_turn.Goals as goal

pub returns-clause-taken : goal.returns-clause-taken
returns-clause-taken c = alone-taken

pub returns-clause-refused : goal.returns-clause-refused
returns-clause-refused c = alone-refused
