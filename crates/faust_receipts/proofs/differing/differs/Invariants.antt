use Rattle.std.proofs.Common.{◌≡◌, ◌+◌, drop}
use Rattle.faust_receipts.specs.Lines.{first_differing_of}
use Rattle.faust_receipts.proofs.differing.differs.Given as goal

abbrev pub invariant-loop-place : goal.invariant-loop-place
invariant-loop-place l =
    first_differing_of l.rec.entries 1 l.receipts ≡ first_differing_of l.rec.entries (l.place + 1) (drop l.place l.receipts)
