use Rattle.std.proofs.Common.{◌≡◌, take}
use Rattle.faust_audit.specs.Findings.{facts_of}
use Rattle.faust_audit.proofs.finding.facts.Given as goal

abbrev pub invariant-loop-q : goal.invariant-loop-q
invariant-loop-q l = l.facts ≡ facts_of (take l.q l.rec.entries)
