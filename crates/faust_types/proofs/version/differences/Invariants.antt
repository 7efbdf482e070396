use Rattle.std.proofs.Common.{◌≡◌, ◌↔◌, take}
use Rattle.faust_types.proofs.version.differences.Given as goal

abbrev pub invariant-loop-i : goal.invariant-loop-i
invariant-loop-i l = (l.bits ≡ 0) ↔ (take l.i l.mine ≡ take l.i l.theirs)
