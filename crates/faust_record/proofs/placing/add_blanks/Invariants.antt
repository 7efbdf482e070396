use Rattle.std.proofs.Common.{◌≡◌, ◌+◌, length}
use Rattle.faust_record.proofs.placing.add_blanks.Given as goal

abbrev pub invariant-loop : goal.invariant-loop
invariant-loop l = length l.table ≡ length l.initial.table + l.counter
