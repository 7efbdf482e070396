use Rattle.std.proofs.Common.{◌≡◌, [], replicate}
use Rattle.faust_sim.proofs.letters.Letters.new.Given as goal

abbrev pub invariant-loop : goal.invariant-loop
invariant-loop l = l.lists.items ≡ replicate l.counter []
