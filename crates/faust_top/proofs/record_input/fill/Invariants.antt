use Rattle.std.proofs.Common.{◌≡◌, ◌≤◌, ◌-◌, take, vec_len}
use Rattle.std.specs.Io.KnownBytes.{Consumes}
use Rattle.faust_top.proofs.record_input.fill.Given as goal

abbrev pub invariant-loop-filled : goal.invariant-loop-filled
invariant-loop-filled g l = record {
  within : l.filled ≤ vec_len l.buffer;
  len : vec_len l.buffer ≡ vec_len l.fn.buffer;
  kept : g.S.Source.faults l.source ≡ g.S.Source.faults l.fn.source;
  front : Consumes (g.S.Source.left l.fn.source) (g.S.Source.left l.source) (take l.filled l.buffer.items);
}

abbrev pub decreases-loop-filled : goal.decreases-loop-filled
decreases-loop-filled g l = vec_len l.buffer - l.filled
