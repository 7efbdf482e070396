use Rattle.std.proofs.Common.{◌≡◌, ◌-◌}
use Rattle.faust_types.specs.Versions.{clients_of}
use Rattle.faust_wire.specs.Reading.{next_entries, next_version}
use Rattle.faust_wire.proofs.version.next_version.Given as goal

abbrev pub invariant-loop-before : goal.invariant-loop-before
invariant-loop-before l =
    (clients_of l.version ≡ l.n) × (next_entries (l.n - l.before) l.before l.version l.timestamps l.digests
    ≡ next_version l.n l.fn.bytes)
