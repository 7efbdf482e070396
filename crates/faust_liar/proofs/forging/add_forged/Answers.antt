use Rattle.std.proofs.Common.{arith}
use Rattle.faust_liar.proofs.Edits.{add-forged}
use Rattle.faust_liar.proofs.forging.add_forged.Goals as goal

pub returns : goal.returns
returns c =
    add-forged c.args.key.now c.args.k c.args.kind c.args.j c.args.reply.now c.in_ok-with_pending.field-0 c.next_number-number.result _
    c.in_ok-added.field-0 c.next_number-number.ensures (omega (arith, c.if-number-gt-MAX_TIMESTAMP.false)) c.submit_tag.ensures
    c.in_ok-added.ensures c.in_ok-with_pending.ensures
