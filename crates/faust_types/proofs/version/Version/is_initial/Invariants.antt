use Rattle.std.proofs.Common.{◌≡◌}
use Rattle.faust_types.specs.Versions.{are_timestamps_zero}
use Rattle.faust_types.proofs.version.Version.is_initial.Given as goal

abbrev pub invariant-loop-before : goal.invariant-loop-before
invariant-loop-before l = l.holds ≡ are_timestamps_zero l.self l.before
