use Rattle.std.proofs.Common.{◌≡◌, [], replicate}
use Rattle.faust_audit.proofs.owing.nothing_due.Given as goal

abbrev pub invariant-loop : goal.invariant-loop
invariant-loop l = l.due.items ≡ replicate l.counter []
