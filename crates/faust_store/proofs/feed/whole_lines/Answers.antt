use Rattle.std.proofs.Common.{◌+◌, ◌++◌, drop, Err, sym, ◌∙◌, subst, arith}
use Rattle.faust_text.specs.Lines.{line_in, lines_of}
use Rattle.faust_store.specs.declared.error.StoreError.{StoreError}
use Rattle.faust_store.specs.Reading.{Reads, lines_from}
use Rattle.faust_store.proofs.Feeds.{one_refused, one_taken}
use Rattle.faust_store.proofs.feed.whole_lines.Goals as goal

pub returns-in-Err : goal.returns-in-Err
returns-in-Err c = λ later.
    let bytes = c.args.bytes.now in
    let line = c.in-Some.line in
    let due = lines_from c.args.start c.args.first (lines_of (bytes ++ later)) in
    subst (λ (e : StoreError). Reads (Err e) due) (sym c.refused.ensures)
    (one_refused c.loop-line.stage c.loop-line.number c.in-Err.error (line_in bytes line) (lines_of (drop c.loop-line.from bytes ++ later))
    (lines_of (drop (line.span.end + 1) bytes ++ later)) due (c.in-Some.ensures.lines_from later) c.in-Err.ensures.gives
    (c.loop-line.invariant.so_far later))

pub loop-line-preserved : goal.loop-line-preserved
loop-line-preserved c =
    let bytes = c.args.bytes.now in
    let line = c.in-Some.line in record {
      in_range = c.in-Ok.ensures.stage;
      counted = omega (arith, c.in-Some.ensures.not_before, c.loop-line.invariant.counted);
      within = c.in-Some.ensures.within;
      so_far = λ later.
          c.loop-line.invariant.so_far later
          ∙ one_taken c.loop-line.stage c.in-Ok.stage c.loop-line.number (line_in bytes line)
          (lines_of (drop c.loop-line.from bytes ++ later))
          (lines_of (drop (line.span.end + 1) bytes ++ later)) (c.in-Some.ensures.lines_from later) c.in-Ok.ensures.gives;
    }
