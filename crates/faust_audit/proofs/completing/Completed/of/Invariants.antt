use Rattle.std.proofs.Common.{take}
use Rattle.faust_audit.specs.Completing.{AreCompleted}
use Rattle.faust_audit.proofs.completing.Completed.of.Given as goal

abbrev pub invariant-loop-q : goal.invariant-loop-q
invariant-loop-q l = AreCompleted l.rec.config.clients (take l.q l.rec.entries) l.completed
