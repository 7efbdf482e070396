use Rattle.std.proofs.Common.{arith}
use Rattle.faust_wire.proofs.Lengths.{length-peer}
use Rattle.faust_wire.proofs.room.room_for_peer.Goals as goal

pub returns : goal.returns
returns c = λ wire.
    omega (arith, length-peer wire c.args.n c.args.message.now c.requires, c.room_for_content.ensures.enough)
