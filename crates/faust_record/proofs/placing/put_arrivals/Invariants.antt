use Rattle.std.proofs.Common.{◌≡◌, length, map}
use Rattle.faust_record.specs.Merging.{entry_of}
use Rattle.faust_record.specs.Placing.{AreBelow, placed}
use Rattle.faust_record.proofs.placing.put_arrivals.Given as goal

abbrev pub invariant-loop-arrival : goal.invariant-loop-arrival
invariant-loop-arrival l =
    (placed l.table (map entry_of l.arrivals) ≡ placed l.initial.table (map entry_of l.initial.arrivals))
    × (AreBelow (length l.table) (map entry_of l.arrivals))

abbrev pub decreases-loop-arrival : goal.decreases-loop-arrival
decreases-loop-arrival l = length l.arrivals
