use Rattle.faust_forks.proofs.Grounds.{ground-first, ground-begun, ground-completed, ground-sent, ground-hashed}
use Rattle.faust_forks.proofs.laws.ground_is_kept.Goals as goal

pub returns-clause-first : goal.returns-clause-first
returns-clause-first c = ground-first

pub returns-clause-begins : goal.returns-clause-begins
returns-clause-begins c = ground-begun

pub returns-clause-completes : goal.returns-clause-completes
returns-clause-completes c = ground-completed

pub returns-clause-sends : goal.returns-clause-sends
returns-clause-sends c = ground-sent

pub returns-clause-hashes : goal.returns-clause-hashes
returns-clause-hashes c = ground-hashed
