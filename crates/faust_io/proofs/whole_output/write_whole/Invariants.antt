-- What is written so far is a front of the text, and no write failed.
use Rattle.std.proofs.Common.{◌≡◌, ◌≤◌, ◌-◌, length, take}
use Rattle.std.specs.Io.KnownBytes.{Appends}
use Rattle.faust_io.proofs.whole_output.write_whole.Given as goal

abbrev pub invariant-loop-written : goal.invariant-loop-written
invariant-loop-written g l = record {
  within : l.written ≤ length l.text;
  kept : g.K.Sink.faults l.sink ≡ g.K.Sink.faults l.fn.sink;
  behind : Appends (g.K.Sink.held l.fn.sink) (g.K.Sink.held l.sink) (take l.written l.text);
}

abbrev pub decreases-loop-written : goal.decreases-loop-written
decreases-loop-written g l = length l.text - l.written
