use Rattle.std.proofs.Common.{◌≡◌, ◌≤◌, take}
use Rattle.faust_types.specs.Messages.{tuples_by}
use Rattle.faust_liar.proofs.forging.tuples_by.Given as goal

abbrev pub invariant-loop-tuple : goal.invariant-loop-tuple
invariant-loop-tuple l = record { counted : l.count ≡ tuples_by l.k (take l.tuple-index l.pending); few : l.count ≤ l.tuple-index }
