use Rattle.std.proofs.Common.{◌≡◌, length, take}
use Rattle.faust_agent.specs.State.{cut_up_to}
use Rattle.faust_agent.proofs.client.Client.put_cut.Given as goal

abbrev pub invariant-loop-before : goal.invariant-loop-before
invariant-loop-before l = (length l.cut ≡ l.n) × (take l.before l.cut ≡ cut_up_to l.me l.self l.before)
