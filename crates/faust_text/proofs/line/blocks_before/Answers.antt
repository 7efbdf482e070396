use Rattle.std.proofs.Common.{◌+◌, ◌≤◌, ◌∙◌, length, sym, arith}
use Rattle.faust_text.proofs.TokenLaws.{len_before-block}
use Rattle.faust_text.proofs.line.blocks_before.Goals as goal

pub loop-at-preserved : goal.loop-at-preserved
loop-at-preserved c =
    let within : c.loop-at.at + 32 ≤ length c.args.bytes.now = omega arith in
    let block = len_before-block c.args.kind c.args.bytes.now c.loop-at.at 32 (sym c.has.ensures ∙ c.if-has.false) within in
    record { skipped = omega (arith, block); within = within }
