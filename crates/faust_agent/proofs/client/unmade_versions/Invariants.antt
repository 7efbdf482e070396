use Rattle.std.proofs.Common.{◌≡◌, replicate}
use Rattle.faust_types.specs.Messages.{unmade}
use Rattle.faust_agent.proofs.client.unmade_versions.Given as goal

abbrev pub invariant-loop : goal.invariant-loop
invariant-loop l = l.heard ≡ replicate l.counter (unmade l.n)
