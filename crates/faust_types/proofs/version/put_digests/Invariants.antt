use Rattle.std.proofs.Common.{◌≡◌, ◌++◌, take, flat_map}
use Rattle.faust_types.specs.Spelling.{optional}
use Rattle.faust_types.proofs.version.put_digests.Given as goal

abbrev pub invariant-loop-digest : goal.invariant-loop-digest
invariant-loop-digest l = l.out ≡ l.initial.out ++ flat_map optional (take l.digest-index l.digests)
