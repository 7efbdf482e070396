use Rattle.faust_tags.proofs.Fields.{peer_content}
use Rattle.faust_tags.proofs.laws.peer_body_tells.Goals as goal

pub returns-clause-content : goal.returns-clause-content
returns-clause-content c = peer_content
