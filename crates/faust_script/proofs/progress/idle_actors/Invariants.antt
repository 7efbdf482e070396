use Rattle.std.proofs.Common.{◌≡◌, replicate}
use Rattle.faust_script.specs.Generated.{idle}
use Rattle.faust_script.proofs.progress.idle_actors.Given as goal

abbrev pub invariant-loop : goal.invariant-loop
invariant-loop l = l.actors ≡ replicate l.counter idle
