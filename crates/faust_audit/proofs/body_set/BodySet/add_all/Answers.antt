use Rattle.std.proofs.Common.{◌++◌, ◌∷◌, [], subst, append_assoc, arith}
use Rattle.std.proofs.lemmas.Grind.{common_steps}
use Rattle.faust_audit.specs.Tables.{HoldsBodies}
use Rattle.faust_audit.proofs.body_set.BodySet.add_all.Goals as goal

pub loop-body-preserved : goal.loop-body-preserved
loop-body-preserved c = record {
  rest = grind (arith, common_steps, c.loop-body.invariant.rest);
  holds = λ made holds. subst (HoldsBodies c.add.new.self) (append_assoc made c.loop-body.yielded (c.in-Some.body ∷ []))
      (c.in_ok-add.ensures (made ++ c.loop-body.yielded) (c.loop-body.invariant.holds made holds));
}
