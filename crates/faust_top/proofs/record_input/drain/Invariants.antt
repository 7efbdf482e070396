use Rattle.std.proofs.Common.{◌≡◌, ◌+◌, ◌<◌, ◌≤◌, true, cond, length, List, ℕ, vec_len}
use Rattle.std.specs.Io.KnownBytes.{Consumes, IsAtEnd}
use Rattle.faust_top.proofs.record_input.drain.Given as goal

abbrev pub invariant-loop-last : goal.invariant-loop-last
invariant-loop-last g l = record {
  room : 0 < vec_len l.buffer;
  few : l.left ≤ l.fn.room;
  kept : g.S.Source.faults l.source ≡ g.S.Source.faults l.fn.source;
  so_far : (rest : List ℕ) × (length rest + l.left ≡ l.fn.room) × Consumes (g.S.Source.left l.fn.source) (g.S.Source.left l.source) rest;
  at_end : l.last ≡ true → IsAtEnd (g.S.Source.left l.source);
}

abbrev pub decreases-loop-last : goal.decreases-loop-last
decreases-loop-last g l = cond l.last 0 (l.left + 1)
