use Rattle.std.proofs.Common.{◌++◌, take, arith, ◌∙◌}
use Rattle.std.proofs.KnownBytes.{Consumes-trans}
use Rattle.std.proofs.lemmas.List.{length-append, length-take-le}
use Rattle.faust_top.proofs.record_input.drain.Goals as goal

pub loop-last-preserved : goal.loop-last-preserved
loop-last-preserved g c =
    let piece = c.in_ok-piece.piece in
    let gives = c.in_ok-piece.ensures.piece in
    let before = c.loop-last.invariant in
    let front = before.so_far.0 in
    let bytes = take piece.len c.next_piece.new.buffer.items in
    let count = length-take-le piece.len c.next_piece.new.buffer.items gives.0.fits in
    record {
      room = c.next_piece.ensures.room;
      few = omega (arith, before.few);
      kept = gives.1 ∙ before.kept;
      so_far = (
        front ++ bytes,
        omega (arith, length-append front bytes, count, gives.0.within, before.so_far.1),
        Consumes-trans _ _ _ front bytes before.so_far.2 gives.0.next,
      );
      at_end = gives.0.last;
    }
