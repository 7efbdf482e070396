use Rattle.std.proofs.Common.{◌≡◌}
use Rattle.faust_script.specs.Generated.{after_steps, beginning}
use Rattle.faust_script.proofs.generator.drawn_events.Given as goal

abbrev pub invariant-loop : goal.invariant-loop
invariant-loop l = l.progress ≡ after_steps l.clients l.ops (beginning l.seed l.clients) l.counter
