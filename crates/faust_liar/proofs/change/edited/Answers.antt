use Rattle.std.proofs.Common.{ap, ◌∙◌, refl, replicate}
use Rattle.faust_script.specs.declared.edit.Edit.{Edit}
use Rattle.faust_liar.specs.Edits.{edited_reply}
use Rattle.faust_liar.proofs.Edits.{add-made}
use Rattle.faust_liar.proofs.change.edited.Goals as goal

pub returns-in_ok-with_pending-in-Add : goal.returns-in_ok-with_pending-in-Add
returns-in_ok-with_pending-in-Add c =
    ap (λ (e : Edit). edited_reply e c.args.reply.now) c.in-Add.is
    ∙ add-made _ _ _ c.args.reply.now c.in_ok-with_pending-in-Add.field-0 (replicate 32 0) c.in_ok-added-in-Add.field-0 refl
    c.in_ok-added-in-Add.ensures c.in_ok-with_pending-in-Add.ensures
