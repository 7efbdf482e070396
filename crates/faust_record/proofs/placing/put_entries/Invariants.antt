use Rattle.std.proofs.Common.{◌≡◌, length}
use Rattle.faust_record.specs.Placing.{AreBelow, placed}
use Rattle.faust_record.proofs.placing.put_entries.Given as goal

abbrev pub invariant-loop-entry : goal.invariant-loop-entry
invariant-loop-entry l = (placed l.table l.entries ≡ placed l.initial.table l.initial.entries) × (AreBelow (length l.table) l.entries)

abbrev pub decreases-loop-entry : goal.decreases-loop-entry
decreases-loop-entry l = length l.entries
