use Rattle.faust_agent.proofs.Sends.{posts-in_range, sent-in_range}
use Rattle.faust_agent.proofs.laws.sent_messages_are_in_range.Goals as goal

pub returns-clause-server : goal.returns-clause-server
returns-clause-server c = sent-in_range

pub returns-clause-clients : goal.returns-clause-clients
returns-clause-clients c = posts-in_range
