use Rattle.std.proofs.Common.{◌≡◌, drop, take}
use Rattle.faust_premises.specs.Premises.{first_forged, first_forged_behind}
use Rattle.faust_audit.specs.Passing.{IsPassAt}
use Rattle.faust_audit.proofs.deciding.premises.Given as goal

abbrev pub invariant-loop-q : goal.invariant-loop-q
invariant-loop-q l = record {
  passed : IsPassAt l.rec.config l.pass (take l.q l.rec.entries);
  rest : first_forged_behind l.rec.config (take l.q l.rec.entries) (drop l.q l.rec.entries)
      ≡ first_forged l.rec.config l.rec.entries;
}
