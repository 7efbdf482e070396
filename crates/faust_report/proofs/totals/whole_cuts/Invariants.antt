use Rattle.std.proofs.Common.{◌≡◌, ◌≤◌}
use Rattle.faust_report.specs.Summary.{whole_cuts}
use Rattle.faust_report.proofs.totals.whole_cuts.Given as goal

abbrev pub invariant-loop-before : goal.invariant-loop-before
invariant-loop-before l = (l.whole ≡ whole_cuts l.facts l.before) × (l.whole ≤ l.before)
