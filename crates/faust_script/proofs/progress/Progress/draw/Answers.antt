use Rattle.std.proofs.Common.{ℕ, refl, ap}
use Rattle.faust_script.specs.declared.progress.Progress.{Progress}
use Rattle.faust_script.specs.Generated.{answer}
use Rattle.faust_script.proofs.Steps.{drawn_wraps}
use Rattle.faust_script.proofs.progress.Progress.draw.Goals as goal

pub returns-clause-value : goal.returns-clause-value
unfolding answer
returns-clause-value c = refl

pub returns-clause-state : goal.returns-clause-state
returns-clause-state c =
    let before : Progress = c.args.self.now in
    let at : ℕ → Progress = λ state. record { state = state; begun = before.begun; actors = before.actors; events = before.events } in
    ap at (drawn_wraps before.state)
