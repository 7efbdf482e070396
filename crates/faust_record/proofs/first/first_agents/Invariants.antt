use Rattle.std.proofs.Common.{◌≡◌}
use Rattle.faust_record.specs.Kept.{first_members}
use Rattle.faust_record.proofs.first.first_agents.Given as goal

abbrev pub invariant-loop-before : goal.invariant-loop-before
invariant-loop-before l = l.agents.items ≡ first_members l.config l.before
