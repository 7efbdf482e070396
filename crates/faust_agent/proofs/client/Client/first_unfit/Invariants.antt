use Rattle.std.proofs.Common.{◌≡◌, None}
use Rattle.faust_agent.specs.Table.{first_unfit}
use Rattle.faust_agent.proofs.client.Client.first_unfit.Given as goal

abbrev pub invariant-loop-before : goal.invariant-loop-before
invariant-loop-before l = first_unfit l.self l.next l.heard l.before ≡ None
