use Rattle.std.proofs.Common.{◌≡◌, take}
use Rattle.faust_server.proofs.memory.copies_of_memory.Given as goal

abbrev pub invariant-loop-held : goal.invariant-loop-held
invariant-loop-held l = l.copies.items ≡ take l.held-index l.memory
