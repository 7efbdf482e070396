use Rattle.std.proofs.Common.{arith}
use Rattle.faust_wire.proofs.Lengths.{length-value}
use Rattle.faust_wire.proofs.room.room_for_value.Goals as goal

pub returns-in-Some-clause-enough : goal.returns-in-Some-clause-enough
returns-in-Some-clause-enough c = rw c.in-Some.is (omega (arith, length-value c.in-Some.value))
