use Rattle.std.proofs.Common.{◌≡◌, None, Some, refl, sym, ap, ◌∙◌}
use Rattle.faust_node.specs.Cells.{Cell}
use Rattle.faust_node.specs.Steps.{step_refused}
use Rattle.faust_node.proofs.Kept.{drawn-behind, kept-refused, kept-taken}
use Rattle.faust_node.proofs.Refused.{cell-refuses}
use Rattle.faust_node.proofs.cell.NodeCell.step.Goals as goal

pub returns-in-Some : goal.returns-in-Some
returns-in-Some g c =
    let cell : Cell = c.args.self.now in
    let is : step_refused cell.log c.args.input ≡ Some c.in-Some.refusal =
    ap (λ (k : Cell). step_refused k.log c.args.input) (sym c.self.view_is) ∙ sym c.in-Some.ensures in
    cell-refuses c.in-Some.refusal cell cell c.args.input is refl

pub step-requires-clause-number : goal.step-requires-clause-number
step-requires-clause-number g c =
    let cell : Cell = record { log = c.self.inside.journal; seat = c.self.inside.seat; closed = c.self.inside.closed } in
    drawn-behind g.T.Session.config cell c.draw-number.result c.self.invariant
    (λ is. c.requires.not_starved (ap (λ (k : Cell). k.closed) (sym c.self.view_is) ∙ is)) c.draw-number.ensures.rising

pub invariant_of-self : goal.invariant_of-self
invariant_of-self g c =
    let free : step_refused c.self.inside.journal c.args.input ≡ None = sym c.in_default.ensures in
    kept-taken g.T.Session.config c.self.inside.journal c.step.new.self c.self.inside.seat c.draw-number.new.self c.self.inside.closed
    c.draw-number.result c.args.input c.self.invariant
    (λ is. c.requires.not_starved (ap (λ (k : Cell). k.closed) (sym c.self.view_is) ∙ is)) free c.draw-number.ensures.taken c.in-Ok.ensures

pub invariant_of-self-in-Err : goal.invariant_of-self-in-Err
invariant_of-self-in-Err g c =
    let free : step_refused c.self.inside.journal c.args.input ≡ None = sym c.in_default.ensures in
    kept-refused g.T.Session.config c.self.inside.journal c.step.new.self c.self.inside.seat c.draw-number.new.self
    c.self.inside.closed c.draw-number.result c.args.input c.in-Err.field-0 c.self.invariant
    (λ is. c.requires.not_starved (ap (λ (k : Cell). k.closed) (sym c.self.view_is) ∙ is)) free c.draw-number.ensures.taken c.in-Err.ensures
