use Rattle.faust_forks.proofs.Completing.{completion-sound}
use Rattle.faust_forks.proofs.Grounds.{own-completed}
use Rattle.faust_forks.proofs.laws.completion_is_sound.Goals as goal

pub returns-clause-sound : goal.returns-clause-sound
returns-clause-sound c = completion-sound

pub returns-clause-own : goal.returns-clause-own
returns-clause-own c = own-completed
