use Rattle.faust_names.proofs.Holding.{chronicle-from}
use Rattle.faust_names.proofs.laws.sound_completions_are_a_chronicle.Goals as goal

pub returns : goal.returns
returns c = chronicle-from
