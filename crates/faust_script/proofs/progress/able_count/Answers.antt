use Rattle.std.proofs.Common.{ℕ, List, length, sym, ap, ◌∙◌, arith}
use Rattle.faust_script.proofs.Steps.{able_taken, able_passed}
use Rattle.faust_script.proofs.progress.able_count.Goals as goal
use Rattle.faust_script.proofs.progress.able_count.Goals.{then-can_act, else-can_act}

pub loop-actor-preserved : goal.loop-actor-preserved
loop-actor-preserved c =
    let actors = c.args.actors.now in
    let i = c.loop-actor.actor-index in
    elim c.if-can_act.branch [
      | then-can_act w ↦
          let more = ap (λ (clients : List ℕ). length clients)
          (able_taken c.args.may_begin actors i _ c.loop-actor-test.true (sym c.can_act.ensures ∙ w.if-can_act.true)) in
          record {
            few = omega (arith, w.count-is, c.loop-actor.invariant.few);
            so_far = omega (arith, w.count-is, more, c.loop-actor.invariant.so_far);
          }
      | else-can_act w ↦
          let same = ap (λ (clients : List ℕ). length clients)
          (able_passed c.args.may_begin actors i _ c.loop-actor-test.true (sym c.can_act.ensures ∙ w.if-can_act.false)) in
          record {
            few = omega (arith, w.count-is, c.loop-actor.invariant.few);
            so_far = omega (arith, w.count-is, same, c.loop-actor.invariant.so_far);
          }
    ]
