use Rattle.std.proofs.Common.{◌-◌, ℕ, List, ◌++◌, take, length, arith, ap, ◌∙◌}
use Rattle.std.proofs.KnownBytes.{Consumes-trans}
use Rattle.std.proofs.lemmas.List.{length-append, length-take-le}
use Rattle.faust_top.proofs.RecordPieces.{due_behind, refusal_behind, refused_read}
use Rattle.faust_top.proofs.record_input.read_run.Goals as goal

pub returns-in-Err-take : goal.returns-in-Err-take
returns-in-Err-take g c =
    let len = c.in-Ok.piece.len in
    let items = c.next_piece.new.buffer.items in
    let gives = c.in-Ok.ensures.piece in
    let before = c.loop-last.invariant in
    let front = before.so_far.0 in
    let bytes = take len items in
    let left : ℕ = c.loop-last.feed.left - len in
    let is = ap (λ (xs : List ℕ). take len xs) c.deref.ensures.value in
    let count = length-take-le len items gives.0.fits in
    refused_read _ _ _ (front ++ bytes) left c.args.limit _ _ _ c.in-Err-take.error c.refused.result
    (Consumes-trans _ _ _ front bytes before.so_far.2 gives.0.next)
    (omega (arith, length-append front bytes, count, gives.0.within, before.so_far.1)) (gives.1 ∙ before.kept)
    (refusal_behind front _ bytes c.loop-last.feed c.in-Err-take.error is before.so_far.3 c.in-Err-take.ensures.takes)
    c.refused.ensures

pub loop-last-preserved : goal.loop-last-preserved
loop-last-preserved g c =
    let len = c.in-Ok.piece.len in
    let items = c.next_piece.new.buffer.items in
    let gives = c.in-Ok.ensures.piece in
    let before = c.loop-last.invariant in
    let front = before.so_far.0 in
    let bytes = take len items in
    let next = c.in-Ok-take.feed in
    let taken = c.in-Ok-take.ensures in
    let is = ap (λ (xs : List ℕ). take len xs) c.deref.ensures.value in
    let same_length = ap length is in
    record {
      room = c.next_piece.ensures.room;
      feed = taken.feed;
      few = omega (arith, taken.left, before.few);
      kept = gives.1 ∙ before.kept;
      so_far = (
        front ++ bytes,
        omega (arith, length-append front bytes, same_length, taken.left, before.so_far.1),
        Consumes-trans _ _ _ front bytes before.so_far.2 gives.0.next,
        due_behind front _ bytes c.loop-last.feed next is before.so_far.3 taken.takes,
      );
      at_end = gives.0.last;
    }
