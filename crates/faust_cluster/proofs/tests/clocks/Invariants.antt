use Rattle.std.proofs.Common.{◌≡◌, length}
use Rattle.faust_cluster.proofs.tests.clocks.Given as goal

abbrev pub invariant-loop : goal.invariant-loop
invariant-loop l = length l.clocks.items ≡ l.counter
