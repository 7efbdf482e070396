use Rattle.faust_runs.proofs.Ledgers.{ledger-sound}
use Rattle.faust_runs.proofs.laws.clean_runs_are_sound.Goals as goal

pub returns : goal.returns
returns c = ledger-sound
