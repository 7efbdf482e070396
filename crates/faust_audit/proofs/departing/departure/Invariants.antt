use Rattle.std.proofs.Common.{drop, take}
use Rattle.faust_audit.specs.Owing.{IsFollowed}
use Rattle.faust_audit.proofs.departing.departure.Given as goal

abbrev pub invariant-loop-q : goal.invariant-loop-q
invariant-loop-q l = IsFollowed l.rec.config (take l.q l.rec.entries) (drop l.q l.rec.entries) l.rec.entries l.owing
