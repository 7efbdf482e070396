use Rattle.std.proofs.Common.{◌≡◌, ◌++◌, length, map, reverse}
use Rattle.faust_record.specs.Journals.{member_of}
use Rattle.faust_record.specs.Merging.{logged_in}
use Rattle.faust_record.specs.Placing.{AreBelow, placed}
use Rattle.faust_record.proofs.placing.put_journals.Given as goal

abbrev pub invariant-loop-journal : goal.invariant-loop-journal
invariant-loop-journal l =
    (placed l.table (logged_in l.journals) ≡ placed l.initial.table (logged_in l.initial.journals))
    × (AreBelow (length l.table) (logged_in l.journals))
    × (map member_of l.journals ++ reverse l.agents.items ≡ map member_of l.initial.journals)

abbrev pub decreases-loop-journal : goal.decreases-loop-journal
decreases-loop-journal l = length l.journals
