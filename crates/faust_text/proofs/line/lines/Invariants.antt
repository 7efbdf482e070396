use Rattle.std.proofs.Common.{◌≡◌, ◌-◌, ◌++◌, length, drop}
use Rattle.faust_text.specs.Lines.{lines_of, line_places, places_from}
use Rattle.faust_text.proofs.line.lines.Given as goal

abbrev pub invariant-loop-line : goal.invariant-loop-line
invariant-loop-line l = l.lines ++ places_from l.from (lines_of (drop l.from l.input)) ≡ line_places l.input

abbrev pub decreases-loop-line : goal.decreases-loop-line
decreases-loop-line l = length l.input - l.from
