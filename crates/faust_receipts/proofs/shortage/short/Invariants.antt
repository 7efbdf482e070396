use Rattle.std.proofs.Common.{◌≡◌, ◌+◌, drop}
use Rattle.faust_receipts.specs.Lines.{first_short}
use Rattle.faust_receipts.proofs.shortage.short.Given as goal

abbrev pub invariant-loop-place : goal.invariant-loop-place
invariant-loop-place l =
    first_short l.rec.entries l.ops 1 l.receipts ≡ first_short l.rec.entries l.ops (l.place + 1) (drop l.place l.receipts)
