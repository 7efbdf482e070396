use Rattle.std.proofs.Common.{◌≡◌, ◌++◌}
use Rattle.faust_script.specs.Generated.{each_up_to, to_another}
use Rattle.faust_script.proofs.generator.put_to.Given as goal

abbrev pub invariant-loop-before : goal.invariant-loop-before
invariant-loop-before l = l.events ≡ l.initial.events ++ each_up_to l.before (λ j. to_another l.k j l.receiver)
