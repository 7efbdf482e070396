use Rattle.std.proofs.Common.{◌≡◌, ◌≤◌, take}
use Rattle.faust_report.specs.Summary.{notices as counted}
use Rattle.faust_report.proofs.totals.notices.Given as goal

abbrev pub invariant-loop-fact : goal.invariant-loop-fact
invariant-loop-fact l = (l.notices ≡ counted (take l.fact-index l.facts)) × (l.notices ≤ l.fact-index)
