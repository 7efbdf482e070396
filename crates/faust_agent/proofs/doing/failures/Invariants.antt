use Rattle.std.proofs.Common.{◌≡◌, map}
use Rattle.faust_types.specs.declared.message.Peer.TheVariants as peers
use Rattle.faust_agent.specs.Table.{message_to, others_up_to}
use Rattle.faust_agent.specs.Outcomes.{spelled_post}
use Rattle.faust_agent.proofs.doing.failures.Given as goal

abbrev pub invariant-loop-before : goal.invariant-loop-before
invariant-loop-before l =
    let messages = map (message_to l.id.config l.id.me (peers.Failure l.check)) (others_up_to l.id.me l.before) in
    l.posts ≡ map (spelled_post l.id.config.wire) messages
