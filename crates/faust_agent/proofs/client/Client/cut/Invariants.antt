use Rattle.std.proofs.Common.{◌≡◌}
use Rattle.faust_agent.specs.State.{cut_up_to}
use Rattle.faust_agent.proofs.client.Client.cut.Given as goal

abbrev pub invariant-loop-before : goal.invariant-loop-before
invariant-loop-before l = l.cut ≡ cut_up_to l.me l.self l.before
