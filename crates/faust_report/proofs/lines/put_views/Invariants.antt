use Rattle.std.proofs.Common.{◌≡◌, ◌++◌, take}
use Rattle.faust_text.specs.Lines.{ended_text}
use Rattle.faust_report.specs.Text.{view_lines}
use Rattle.faust_report.proofs.lines.put_views.Given as goal

abbrev pub invariant-loop-place : goal.invariant-loop-place
invariant-loop-place l = l.out ≡ l.initial.out ++ ended_text (view_lines 1 (take l.place l.views))
