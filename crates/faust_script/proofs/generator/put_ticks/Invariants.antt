use Rattle.std.proofs.Common.{◌≡◌, ◌++◌, ◌∷◌, []}
use Rattle.faust_script.specs.declared.event.Event.TheVariants as event
use Rattle.faust_script.specs.Generated.{each_up_to}
use Rattle.faust_script.proofs.generator.put_ticks.Given as goal

abbrev pub invariant-loop-before : goal.invariant-loop-before
invariant-loop-before l = l.events ≡ l.initial.events ++ each_up_to l.before (λ i. event.Tick i l.moment ∷ [])
