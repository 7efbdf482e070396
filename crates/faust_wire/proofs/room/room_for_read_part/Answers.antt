use Rattle.std.proofs.Common.{arith}
use Rattle.faust_wire.proofs.Lengths.{length-part}
use Rattle.faust_wire.proofs.room.room_for_read_part.Goals as goal

pub returns-in-Some-clause-enough : goal.returns-in-Some-clause-enough
returns-in-Some-clause-enough c =
    rw c.in-Some.is (omega (
      arith,
      length-part c.args.n c.in-Some.part (rw c.in-Some.is at c.requires),
      c.room_for_signed.ensures,
      c.room_for_memory.ensures.enough,
    ))
