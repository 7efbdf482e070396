use Rattle.std.proofs.Common.{◌∷◌, [], ◌∙◌}
use Rattle.faust_script.specs.declared.event.Event.TheVariants as event
use Rattle.faust_script.proofs.Rounds.{each_first, each_more_behind}
use Rattle.faust_script.proofs.generator.put_ticks.Goals as goal

pub loop-before-init : goal.loop-before-init
loop-before-init c = each_first c.args.events.now (λ i. event.Tick i c.args.moment ∷ [])

pub loop-before-preserved : goal.loop-before-preserved
loop-before-preserved c =
    c.in_ok-push.ensures.ok ∙ each_more_behind c.args.events.now c.loop-before.events c.loop-before.before
    (λ i. event.Tick i c.args.moment ∷ []) c.loop-before.invariant
