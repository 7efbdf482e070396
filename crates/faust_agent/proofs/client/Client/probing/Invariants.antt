use Rattle.std.proofs.Common.{◌≡◌, length}
use Rattle.faust_agent.specs.Outcomes.{IsProbing}
use Rattle.faust_agent.proofs.client.Client.probing.Given as goal

abbrev pub invariant-loop-before : goal.invariant-loop-before
invariant-loop-before l =
    (length l.news ≡ l.id.config.clients)
    × IsProbing l.id.config l.id.me l.self l.moment l.before (record { probed = l.probed; posts = l.posts; news = l.news })
