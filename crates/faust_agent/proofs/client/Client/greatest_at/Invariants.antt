use Rattle.std.proofs.Common.{◌≡◌}
use Rattle.faust_types.specs.Clients.{IsClient}
use Rattle.faust_agent.specs.State.{greatest_up_to}
use Rattle.faust_agent.proofs.client.Client.greatest_at.Given as goal

abbrev pub invariant-loop-before : goal.invariant-loop-before
invariant-loop-before l = (l.best ≡ greatest_up_to l.self l.before) × IsClient l.n l.best
