use Rattle.std.proofs.Common.{◌≡◌, ◌++◌, take, flat_map}
use Rattle.faust_types.specs.Spelling.{optional}
use Rattle.faust_wire.proofs.put.put_proofs.Given as goal

abbrev pub invariant-loop-proof : goal.invariant-loop-proof
invariant-loop-proof l = l.out ≡ l.initial.out ++ flat_map optional (take l.proof-index l.proofs)
