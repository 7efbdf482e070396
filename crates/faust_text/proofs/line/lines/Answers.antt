use Rattle.std.proofs.Common.{◌+◌, [], ◌∷◌, ◌++◌, drop, ap, sym, ◌∙◌, arith, append_assoc}
use Rattle.faust_text.specs.Lines.{lines_of, places_from}
use Rattle.faust_text.proofs.LineLaws.{places-more}
use Rattle.faust_text.proofs.line.lines.Goals as goal

pub overflow_add-from : goal.overflow_add-from
overflow_add-from c = omega (arith, c.in-Some.ensures.within)

pub loop-line-smaller : goal.loop-line-smaller
loop-line-smaller c = omega (arith, c.in-Some.ensures.not_before, c.in-Some.ensures.not_end)

pub loop-line-preserved : goal.loop-line-preserved
loop-line-preserved c =
    let rest = places_from (c.in-Some.line.span.end + 1) (lines_of (drop (c.in-Some.line.span.end + 1) c.args.input.now)) in
    ap (λ ts. ts ++ rest) c.in_ok-push.ensures.ok
    ∙ (append_assoc c.loop-line.lines (c.in-Some.line ∷ []) rest
    ∙ (ap (λ ts. c.loop-line.lines ++ ts) (sym (places-more c.args.input.now c.loop-line.from c.in-Some.line c.in-Some.ensures))
    ∙ c.loop-line.invariant))
