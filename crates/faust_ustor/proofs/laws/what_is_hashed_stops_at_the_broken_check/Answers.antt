use Rattle.faust_ustor.proofs.Fronts.{hashed-front}
use Rattle.faust_ustor.proofs.Stops.{hashed-up_to}
use Rattle.faust_ustor.proofs.laws.what_is_hashed_stops_at_the_broken_check.Goals as goal

pub returns-clause-front : goal.returns-clause-front
returns-clause-front c key me own op reply = hashed-front key me own op reply

pub returns-clause-base : goal.returns-clause-base
returns-clause-base c key me own op reply notice h high = (hashed-up_to key me own op reply notice h).at_base high

pub returns-clause-tuple : goal.returns-clause-tuple
returns-clause-tuple c key me own op reply notice h low high = (hashed-up_to key me own op reply notice h).at_tuple low high

pub returns-clause-version : goal.returns-clause-version
returns-clause-version c key me own op reply notice h same = (hashed-up_to key me own op reply notice h).at_version same

pub returns-clause-memory : goal.returns-clause-memory
returns-clause-memory c key me own op reply notice h low = (hashed-up_to key me own op reply notice h).behind low
