use Rattle.faust_agent.proofs.Kept.{kept-first}
use Rattle.faust_agent.proofs.Reasons.{deed-in_range, kept-event}
use Rattle.faust_agent.proofs.laws.clients_stay_in_range.Goals as goal

pub returns-clause-first : goal.returns-clause-first
returns-clause-first c = kept-first

pub returns-clause-deed : goal.returns-clause-deed
returns-clause-deed c = deed-in_range

pub returns-clause-later : goal.returns-clause-later
returns-clause-later c = kept-event
