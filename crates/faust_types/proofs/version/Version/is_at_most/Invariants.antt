use Rattle.std.proofs.Common.{◌≡◌, true}
use Rattle.faust_types.specs.Versions.{are_entries_at_most}
use Rattle.faust_types.proofs.version.Version.is_at_most.Given as goal

abbrev pub invariant-loop-before : goal.invariant-loop-before
invariant-loop-before l = are_entries_at_most l.self l.other l.before ≡ true
