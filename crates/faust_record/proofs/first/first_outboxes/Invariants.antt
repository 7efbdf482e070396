use Rattle.std.proofs.Common.{◌≡◌, replicate}
use Rattle.faust_record.specs.Kept.{empty_outbox}
use Rattle.faust_record.proofs.first.first_outboxes.Given as goal

abbrev pub invariant-loop : goal.invariant-loop
invariant-loop l = l.outboxes.items ≡ replicate l.counter empty_outbox
