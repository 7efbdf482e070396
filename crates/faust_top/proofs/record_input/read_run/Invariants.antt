use Rattle.std.proofs.Common.{◌≡◌, ◌+◌, ◌<◌, ◌≤◌, true, cond, length, List, ℕ, ◌++◌, vec_len}
use Rattle.std.specs.Io.KnownBytes.{Consumes, IsAtEnd}
use Rattle.faust_store.specs.Feeding.{IsFeed, due_of}
use Rattle.faust_store.specs.Reading.{read}
use Rattle.faust_top.proofs.record_input.read_run.Given as goal

abbrev pub invariant-loop-last : goal.invariant-loop-last
invariant-loop-last g l = record {
  room : 0 < vec_len l.buffer;
  feed : IsFeed l.feed;
  few : l.feed.left ≤ l.fn.limit;
  kept : g.S.Source.faults l.source ≡ g.S.Source.faults l.fn.source;
  so_far : (front : List ℕ) × (length front + l.feed.left ≡ l.fn.limit)
      × Consumes (g.S.Source.left l.fn.source) (g.S.Source.left l.source) front
      × ((later : List ℕ) → due_of l.feed later ≡ read (front ++ later));
  at_end : l.last ≡ true → IsAtEnd (g.S.Source.left l.source);
}

abbrev pub decreases-loop-last : goal.decreases-loop-last
decreases-loop-last g l = cond l.last 0 (l.feed.left + 1)
