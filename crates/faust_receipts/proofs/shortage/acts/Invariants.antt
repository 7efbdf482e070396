use Rattle.std.proofs.Common.{◌≡◌, ◌+◌, ◌≤◌, length, drop}
use Rattle.faust_record.specs.Laws.{acts_of}
use Rattle.faust_receipts.proofs.shortage.acts.Given as goal

abbrev pub invariant-loop-q : goal.invariant-loop-q
invariant-loop-q l = (length (acts_of l.client l.rec.entries) ≡ l.acts + length (acts_of l.client (drop l.q l.rec.entries)))
    × (l.acts ≤ l.q)
