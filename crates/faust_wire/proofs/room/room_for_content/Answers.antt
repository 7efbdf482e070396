use Rattle.std.proofs.Common.{arith}
use Rattle.faust_wire.proofs.Lengths.{length-content-le}
use Rattle.faust_wire.proofs.room.room_for_content.Goals as goal

pub returns-in-Version-clause-enough : goal.returns-in-Version-clause-enough
returns-in-Version-clause-enough c = omega (arith, length-content-le c.args.n c.args.peer.now c.requires, c.room_for_signed.ensures)
