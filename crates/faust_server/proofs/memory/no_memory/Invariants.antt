use Rattle.std.proofs.Common.{◌≡◌, None, replicate}
use Rattle.faust_server.proofs.memory.no_memory.Given as goal

abbrev pub invariant-loop : goal.invariant-loop
invariant-loop l = l.memory.items ≡ replicate l.counter None
