use Rattle.faust_wire.proofs.Messages.{message_found}
use Rattle.faust_wire.proofs.laws.message_of_is_spelled.Goals as goal

pub returns-clause-spelled : goal.returns-clause-spelled
returns-clause-spelled c = message_found
