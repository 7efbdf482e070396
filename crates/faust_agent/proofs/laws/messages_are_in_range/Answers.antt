use Rattle.faust_agent.proofs.Reasons.{peer-in_range, reply-in_range}
use Rattle.faust_agent.proofs.laws.messages_are_in_range.Goals as goal

pub returns-clause-reply : goal.returns-clause-reply
returns-clause-reply c = reply-in_range

pub returns-clause-peer : goal.returns-clause-peer
returns-clause-peer c = peer-in_range
