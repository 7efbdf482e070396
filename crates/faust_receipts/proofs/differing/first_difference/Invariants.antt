use Rattle.std.proofs.Common.{◌≡◌, ◌≤◌, length, drop}
use Rattle.faust_receipts.specs.Comparing.{first_difference, told_among}
use Rattle.faust_receipts.proofs.differing.first_difference.Given as goal

abbrev pub invariant-loop-q : goal.invariant-loop-q
invariant-loop-q l = (l.next ≤ length l.told)
    × (first_difference l.told (told_among l.client l.rec.entries)
    ≡ first_difference (drop l.next l.told) (told_among l.client (drop l.q l.rec.entries)))
