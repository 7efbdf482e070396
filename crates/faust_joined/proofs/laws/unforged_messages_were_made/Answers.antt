use Rattle.std.proofs.Common.{[]}
use Rattle.faust_joined.proofs.Unforged.{peers-made}
use Rattle.faust_joined.proofs.laws.unforged_messages_were_made.Goals as goal

pub returns : goal.returns
returns c = λ config entries none. peers-made config [] entries none
