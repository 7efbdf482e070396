use Rattle.faust_text.proofs.ValueLaws.{values_are, bytes_are}
use Rattle.faust_text.proofs.laws.values_are_their_spellings.Goals as goal

pub returns-clause-values : goal.returns-clause-values
returns-clause-values c = values_are

pub returns-clause-bytes : goal.returns-clause-bytes
returns-clause-bytes c = bytes_are
