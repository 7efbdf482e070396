use Rattle.faust_wire.proofs.Messages.{version_found}
use Rattle.faust_wire.proofs.laws.version_of_is_spelled.Goals as goal

pub returns-clause-spelled : goal.returns-clause-spelled
returns-clause-spelled c = version_found
