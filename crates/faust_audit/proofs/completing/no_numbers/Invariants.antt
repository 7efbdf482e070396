use Rattle.std.proofs.Common.{◌≡◌, [], replicate}
use Rattle.faust_audit.proofs.completing.no_numbers.Given as goal

abbrev pub invariant-loop : goal.invariant-loop
invariant-loop l = l.numbers.items ≡ replicate l.counter []
