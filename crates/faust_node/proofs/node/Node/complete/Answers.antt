use Rattle.std.proofs.Common.{◌≡◌, Result, Ok, Err, IfOk, subst, sym}
use Rattle.faust_types.specs.declared.operation.Operation.{Operation}
use Rattle.faust_record.specs.declared.entry.Input.{Input}
use Rattle.faust_node.specs.declared.error.NodeError.{NodeError}
use Rattle.faust_node.specs.declared.receipt.Receipt.{Receipt}
use Rattle.faust_node.specs.Steps.{IsAsked, IsAskedFor}
use Rattle.faust_node.proofs.node.Node.complete.Goals as goal

asked-receipt : (result : Result Receipt NodeError) (input now : Input) (op : Operation) → now ≡ input → IsAskedFor now op
    → IfOk result (λ (r : Receipt). r.answer.op ≡ op) → IfOk result (λ (r : Receipt). IsAskedFor input r.answer.op)
asked-receipt (Ok r) input now op same asked is =
    subst (λ (o : Operation). IsAskedFor input o) (sym is) (subst (λ (i : Input). IsAskedFor i op) same asked)
asked-receipt (Err e) input now op same asked is = tt

pub begin-requires-clause-asked : goal.begin-requires-clause-asked
begin-requires-clause-asked g c =
    subst (λ (i : Input). IsAsked g.T.Session.config.clients i) (sym c.loop.invariant) c.requires

pub returns-then-is_idle-clause-receipt : goal.returns-then-is_idle-clause-receipt
returns-then-is_idle-clause-receipt g c =
    asked-receipt c.receipt.result c.args.input _ c.in-Ok.op c.loop.invariant c.in-Ok.ensures.asked c.receipt.ensures.receipt
