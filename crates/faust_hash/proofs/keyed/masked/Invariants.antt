use Rattle.std.proofs.Common.{◌≡◌, ◌++◌, take, drop}
use Rattle.faust_hash.specs.Hmac.{masked as masked_by}
use Rattle.faust_hash.proofs.keyed.masked.Given as goal

abbrev pub invariant-loop-byte : goal.invariant-loop-byte
invariant-loop-byte l = l.byte-items ≡ masked_by (take l.byte-index l.block) l.pad ++ drop l.byte-index l.block
