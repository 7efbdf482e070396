use Rattle.std.proofs.Common.{◌≡◌, take}
use Rattle.faust_server.proofs.server.copies_of_versions.Given as goal

abbrev pub invariant-loop-known : goal.invariant-loop-known
invariant-loop-known l = l.copies.items ≡ take l.known-index l.versions
