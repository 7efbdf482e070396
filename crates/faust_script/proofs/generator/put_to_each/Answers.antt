use Rattle.std.proofs.Common.{◌∙◌}
use Rattle.faust_script.specs.Generated.{each_up_to, to_another}
use Rattle.faust_script.proofs.Rounds.{each_first, each_more_behind}
use Rattle.faust_script.proofs.generator.put_to_each.Goals as goal

pub loop-before-init : goal.loop-before-init
loop-before-init c = each_first c.args.events.now (λ i. each_up_to c.args.clients (λ j. to_another c.args.k j i))

pub loop-before-preserved : goal.loop-before-preserved
loop-before-preserved c =
    c.in_ok-put_to.ensures ∙ each_more_behind c.args.events.now c.loop-before.events c.loop-before.before
    (λ i. each_up_to c.args.clients (λ j. to_another c.args.k j i)) c.loop-before.invariant
