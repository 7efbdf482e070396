use Rattle.std.proofs.Common.{◌≡◌, ◌++◌, take, flat_map}
use Rattle.faust_wire.specs.Grammar.{tuple_bytes}
use Rattle.faust_wire.proofs.put.put_pending.Given as goal

abbrev pub invariant-loop-tuple : goal.invariant-loop-tuple
invariant-loop-tuple l = l.out ≡ l.initial.out ++ flat_map tuple_bytes (take l.tuple-index l.tuples)
