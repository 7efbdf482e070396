use Rattle.std.proofs.Common.{arith}
use Rattle.faust_wire.proofs.Lengths.{length-commit}
use Rattle.faust_wire.proofs.room.room_for_commit.Goals as goal

pub returns : goal.returns
returns c = λ wire commit fits. omega (arith, length-commit wire c.args.n commit fits, c.version_room.ensures)
