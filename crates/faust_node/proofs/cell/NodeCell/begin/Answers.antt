use Rattle.std.proofs.Common.{◌≡◌, ℕ, sym, ap, ◌∙◌}
use Rattle.faust_types.specs.declared.config.Config.{Config}
use Rattle.faust_types.specs.declared.operation.Operation.{Operation}
use Rattle.faust_agent.specs.State.{Member}
use Rattle.faust_node.specs.Cells.{Cell, held_by}
use Rattle.faust_node.specs.Steps.{asked_for}
use Rattle.faust_node.proofs.Begun.{asked-free, asked-kind, log-waits, only-memory}
use Rattle.faust_node.proofs.cell.NodeCell.begin.Goals as goal

pub returns-in-Ok : goal.returns-in-Ok
returns-in-Ok g c =
    let old : Cell = c.args.self.now in
    let n : ℕ = g.T.Session.config.clients in
    let op : Operation = c.next_operation-op.result in
    let n_is : n ≡ old.log.config.clients =
    ap (λ (k : Config). k.clients) (sym c.self.invariant.of_config) ∙ ap (λ (k : Cell). k.log.config.clients) c.self.view_is in
    let op_is : op ≡ asked_for old.log.me (held_by old.log) c.args.input =
    c.next_operation-op.ensures ∙ ap (λ (m : Member). asked_for m.me m.client c.args.input) c.agent.ensures
    ∙ ap (λ (k : Cell). asked_for k.log.me (held_by k.log) c.args.input) c.self.view_is in
    let stepped = c.in-Ok.ensures in
    record {
      stepped = stepped;
      waiting = log-waits n old c.step.new.self.log stepped.number c.args.input op n_is c.requires.asked c.requires.may
          stepped.logged op_is;
      asked = asked-kind old.log.me (held_by old.log) c.args.input op op_is;
    }

pub returns-in-Err : goal.returns-in-Err
returns-in-Err g c =
    let old : Cell = c.args.self.now in
    let n : ℕ = g.T.Session.config.clients in
    let n_is : n ≡ old.log.config.clients =
    ap (λ (k : Config). k.clients) (sym c.self.invariant.of_config) ∙ ap (λ (k : Cell). k.log.config.clients) c.self.view_is in
    only-memory c.in-Err.field-0 old c.step.new.self c.args.input (asked-free n old c.args.input n_is c.requires.asked c.requires.may)
    c.in-Err.ensures
