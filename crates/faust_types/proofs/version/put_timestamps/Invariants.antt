use Rattle.std.proofs.Common.{◌≡◌, ◌++◌, take, flat_map}
use Rattle.faust_types.specs.Spelling.{be64}
use Rattle.faust_types.proofs.version.put_timestamps.Given as goal

abbrev pub invariant-loop-t : goal.invariant-loop-t
invariant-loop-t l = l.out ≡ l.initial.out ++ flat_map be64 (take l.t-index l.timestamps)
