use Rattle.std.proofs.Common.{◌≡◌, take}
use Rattle.faust_audit.specs.Findings.{order_among}
use Rattle.faust_audit.proofs.ordering.order.Given as goal

abbrev pub invariant-loop-q : goal.invariant-loop-q
invariant-loop-q l = l.names ≡ order_among l.rec.config l.rec.entries (take l.q l.rec.entries)
