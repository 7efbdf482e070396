use Rattle.std.proofs.Common.{◌≡◌, ◌↔◌, take}
use Rattle.faust_hash.proofs.compare.differences.Given as goal

abbrev pub invariant-loop-i : goal.invariant-loop-i
invariant-loop-i l = (l.bits ≡ 0) ↔ (take l.i l.a ≡ take l.i l.b)
