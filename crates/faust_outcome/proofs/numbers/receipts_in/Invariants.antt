use Rattle.std.proofs.Common.{◌≡◌, ◌+◌, drop}
use Rattle.faust_outcome.specs.Outcomes.{receipts_in}
use Rattle.faust_outcome.proofs.numbers.receipts_in.Given as goal

abbrev pub invariant-loop-told : goal.invariant-loop-told
invariant-loop-told l = l.count + receipts_in (drop l.told-index l.receipts) ≡ receipts_in l.receipts
