use Rattle.std.proofs.Common.{◌≡◌, ◌≤◌, length, take}
use Rattle.faust_record.specs.Operations.{started_among}
use Rattle.faust_audit.proofs.finding.begun_count.Given as goal

abbrev pub invariant-loop-q : goal.invariant-loop-q
invariant-loop-q l = (l.begun ≡ length (started_among (take l.q l.rec.entries))) × (l.begun ≤ l.q)
