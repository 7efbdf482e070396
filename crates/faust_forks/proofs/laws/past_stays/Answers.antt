use Rattle.faust_forks.proofs.Later.{later-begun, later-completed, later-sent, later-along}
use Rattle.faust_forks.proofs.Settled.{sound-later}
use Rattle.faust_forks.proofs.laws.past_stays.Goals as goal

pub returns-clause-begins : goal.returns-clause-begins
returns-clause-begins c = later-begun

pub returns-clause-completes : goal.returns-clause-completes
returns-clause-completes c = later-completed

pub returns-clause-sends : goal.returns-clause-sends
returns-clause-sends c = later-sent

pub returns-clause-along : goal.returns-clause-along
returns-clause-along c = later-along

pub returns-clause-sound : goal.returns-clause-sound
returns-clause-sound c = sound-later
