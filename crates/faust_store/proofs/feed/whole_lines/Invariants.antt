use Rattle.std.proofs.Common.{◌≡◌, ℕ, ◌+◌, ◌-◌, ◌≤◌, List, ◌++◌, length, drop}
use Rattle.faust_text.specs.Lines.{lines_of}
use Rattle.faust_store.specs.InRange.{IsStage}
use Rattle.faust_store.specs.Reading.{lines_from}
use Rattle.faust_store.proofs.feed.whole_lines.Given as goal

abbrev pub invariant-loop-line : goal.invariant-loop-line
invariant-loop-line l = record {
  in_range : IsStage l.stage;
  counted : l.number ≤ l.fn.first + l.from;
  within : l.from ≤ length l.bytes;
  so_far : (later : List ℕ) → lines_from l.fn.start l.fn.first (lines_of (l.bytes ++ later))
      ≡ lines_from l.stage l.number (lines_of (drop l.from l.bytes ++ later));
}

abbrev pub decreases-loop-line : goal.decreases-loop-line
decreases-loop-line l = length l.bytes - l.from
