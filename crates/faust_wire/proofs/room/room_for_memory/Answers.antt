use Rattle.std.proofs.Common.{arith}
use Rattle.faust_wire.proofs.Lengths.{length-mem}
use Rattle.faust_wire.proofs.room.room_for_memory.Goals as goal

pub returns-in-Some-clause-enough : goal.returns-in-Some-clause-enough
returns-in-Some-clause-enough c =
    rw c.in-Some.is (omega (arith, length-mem c.in-Some.mem (rw c.in-Some.is at c.requires), c.room_for_value.ensures.enough))
