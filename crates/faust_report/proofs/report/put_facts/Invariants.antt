use Rattle.std.proofs.Common.{◌≡◌, ◌++◌, take, flat_map}
use Rattle.faust_text.specs.Lines.{ended_text}
use Rattle.faust_report.specs.Text.{fact_lines}
use Rattle.faust_report.proofs.report.put_facts.Given as goal

abbrev pub invariant-loop-fact : goal.invariant-loop-fact
invariant-loop-fact l = l.out ≡ l.initial.out ++ ended_text (flat_map fact_lines (take l.fact-index l.facts))
