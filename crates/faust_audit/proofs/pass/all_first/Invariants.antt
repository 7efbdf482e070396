use Rattle.std.proofs.Common.{◌≡◌, replicate}
use Rattle.faust_audit.specs.Watching.{first_watched}
use Rattle.faust_audit.proofs.pass.all_first.Given as goal

abbrev pub invariant-loop : goal.invariant-loop
invariant-loop l = l.watched.items ≡ replicate l.counter (first_watched l.n)
