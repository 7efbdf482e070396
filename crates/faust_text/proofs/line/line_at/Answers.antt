use Rattle.std.proofs.Common.{length, ◌∙◌, ap, arith}
use Rattle.faust_text.specs.Tokens.{len_before}
use Rattle.faust_text.proofs.LineLaws.{begins-here}
use Rattle.faust_text.proofs.line.line_at.Goals as goal

pub returns : goal.returns
returns c =
    let rest = c.split_at.ensures.back in
    begins-here c.args.input.now c.args.from c.len_before-length.result (omega arith) (c.len_before-length.ensures.count
    ∙ ap (len_before 10) rest) (omega (arith, c.len_before-length.ensures.within, ap length rest))
