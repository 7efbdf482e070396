-- The filled front of the buffer is what the source gave so far, and no read failed.
use Rattle.std.proofs.Common.{◌≡◌, ◌≤◌, ◌+◌, ◌-◌, take, vec_len}
use Rattle.std.specs.Io.KnownBytes.{Consumes}
use Rattle.faust_io.proofs.whole_input.read_whole.Given as goal

abbrev pub invariant-loop-filled : goal.invariant-loop-filled
invariant-loop-filled g l = record {
  within : l.filled ≤ vec_len l.buffer;
  bounded : vec_len l.buffer ≤ l.limit + 1;
  kept : g.S.Source.faults l.source ≡ g.S.Source.faults l.fn.source;
  front : Consumes (g.S.Source.left l.fn.source) (g.S.Source.left l.source) (take l.filled l.buffer.items);
}

abbrev pub decreases-loop-filled : goal.decreases-loop-filled
decreases-loop-filled g l = l.limit + 1 - l.filled
