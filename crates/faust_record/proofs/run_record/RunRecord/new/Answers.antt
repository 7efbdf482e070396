use Rattle.std.proofs.Common.{replicate}
use Rattle.faust_record.specs.Kept.{first_members}
use Rattle.faust_record.proofs.Agents.{replayed-first}
use Rattle.faust_record.proofs.Outboxes.{filled-first}
use Rattle.faust_record.proofs.Runs.{run-first}
use Rattle.faust_record.proofs.run_record.RunRecord.new.Goals as goal

pub invariant_of-result : goal.invariant_of-result
invariant_of-result c = record {
  run = rw c.new.ensures (run-first c.args.config c.requires);
  replayed = rw (c.in_ok-agents.ensures, c.new.ensures) (replayed-first c.args.config);
  filled = rw (c.in_ok-outboxes.ensures, c.new.ensures) (filled-first c.args.config.clients);
}
