use Rattle.std.proofs.Common.{◌≡◌, take}
use Rattle.std.specs.Option.{option_copied}
use Rattle.faust_report.specs.Summary.{last_cut}
use Rattle.faust_report.proofs.totals.last_cut.Given as goal

abbrev pub invariant-loop-fact : goal.invariant-loop-fact
invariant-loop-fact l = option_copied l.last ≡ last_cut l.client (take l.fact-index l.facts)
