use Rattle.std.proofs.Common.{arith, ◌∙◌, length-drop}
use Rattle.faust_io.proofs.Pieces.{Consumes-more}
use Rattle.faust_top.proofs.record_input.fill.Goals as goal

pub loop-filled-preserved : goal.loop-filled-preserved
loop-filled-preserved g c =
    let read = c.in_ok-given.ensures in
    let before = c.loop-filled.invariant in
    record {
      within = omega (
        arith,
        read.bytes.fits,
        read.len,
        c.read_behind.new.buffer.ok.0,
        length-drop c.loop-filled.filled c.read_behind.new.buffer.items,
      );
      len = read.len ∙ before.len;
      kept = read.count ∙ before.kept;
      front = Consumes-more _ _ _ c.loop-filled.buffer.items c.read_behind.new.buffer.items c.loop-filled.filled c.in_ok-given.given
          before.front read.front read.bytes.next;
    }
