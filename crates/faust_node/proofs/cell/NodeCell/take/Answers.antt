use Rattle.std.proofs.Common.{sym, ap, ◌∙◌}
use Rattle.faust_types.specs.declared.arrival.Closing.TheVariants as closings
use Rattle.faust_node.specs.Cells.{Cell, closed_by, held_by}
use Rattle.faust_node.proofs.Begun.{outside-refused, stop-open}
use Rattle.faust_node.proofs.cell.NodeCell.take.Goals as goal

pub returns-in_default-error : goal.returns-in_default-error
returns-in_default-error g c =
    let old : Cell = c.args.self.now in
    let refused = outside-refused c.in-Err.error old c.step.new.self c.args.input c.in_default-error.not-OutOfMemory c.requires
    c.in-Err.ensures in
    record {
      was_open = stop-open (held_by old.log).notice old.closed (sym c.in_default.ensures);
      full = refused.full;
      closed_full = c.close.ensures ∙ ap (λ (k : Cell). closed_by k closings.Full) refused.same;
    }
