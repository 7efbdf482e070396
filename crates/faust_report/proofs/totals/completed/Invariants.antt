use Rattle.std.proofs.Common.{◌≡◌, ◌≤◌, take}
use Rattle.faust_report.specs.Summary.{completed as counted}
use Rattle.faust_report.proofs.totals.completed.Given as goal

abbrev pub invariant-loop-fact : goal.invariant-loop-fact
invariant-loop-fact l = (l.done ≡ counted (take l.fact-index l.facts)) × (l.done ≤ l.fact-index)
