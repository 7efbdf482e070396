use Rattle.std.proofs.Common.{◌≡◌, ◌-◌, ◌*◌, ℕ, List, sym, ap, ◌∙◌, subst, arith}
use Rattle.faust_script.specs.declared.event.Event.{Event}
use Rattle.faust_script.specs.declared.progress.Progress.{Progress}
use Rattle.faust_script.specs.Generated.{acted, after_steps, beginning, drawn_events}
use Rattle.faust_script.specs.Stepping.{CanStep}
use Rattle.faust_script.proofs.Steps.{can_step, no_step, one_more_step}
use Rattle.faust_script.proofs.generator.drawn_events.Goals as goal

pub step-requires : goal.step-requires
step-requires c =
    subst (λ (progress : Progress). CanStep c.args.clients c.args.ops progress) (sym c.loop.invariant)
    (can_step c.args.seed c.args.clients c.args.ops c.loop.counter c.requires (omega arith))

pub loop-preserved : goal.loop-preserved
loop-preserved c =
    c.in_ok-step.ensures
    ∙ (ap (λ (progress : Progress). acted c.args.clients c.args.ops progress) c.loop.invariant
    ∙ one_more_step c.args.clients c.args.ops (beginning c.args.seed c.args.clients) c.loop.counter)

pub loop-init : goal.loop-init
loop-init c = c.in_ok-progress.ensures ∙ sym (no_step c.args.clients c.args.ops (beginning c.args.seed c.args.clients))

pub returns : goal.returns
unfolding drawn_events
returns c =
    let whole : c.loop.counter ≡ 4 * (c.args.ops - 1) = omega arith in
    let events_of : Progress → List Event = λ progress. progress.events in
    ap events_of (c.loop.invariant
    ∙ ap (λ (steps : ℕ). after_steps c.args.clients c.args.ops (beginning c.args.seed c.args.clients) steps) whole)
