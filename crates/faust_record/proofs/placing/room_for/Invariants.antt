use Rattle.std.proofs.Common.{◌≡◌, length, take}
use Rattle.faust_record.specs.Merging.{logged_in}
use Rattle.faust_record.proofs.placing.room_for.Given as goal

abbrev pub invariant-loop-before : goal.invariant-loop-before
invariant-loop-before l = length l.table ≡ length (logged_in (take l.before l.journals))
