use Rattle.std.proofs.Common.{arith}
use Rattle.faust_wire.proofs.Lengths.{length-riding}
use Rattle.faust_wire.proofs.room.room_for_riding.Goals as goal

pub returns-in-Some-clause-enough : goal.returns-in-Some-clause-enough
returns-in-Some-clause-enough c =
    omega (arith, length-riding c.args.wire c.args.n c.args.commit.now c.requires, c.version_room.ensures)
