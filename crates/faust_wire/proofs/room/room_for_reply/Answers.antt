use Rattle.std.proofs.Common.{arith}
use Rattle.faust_wire.proofs.Lengths.{length-reply}
use Rattle.faust_wire.proofs.room.room_for_reply.Goals as goal

pub returns : goal.returns
returns c = λ wire.
    omega (
      arith,
      length-reply wire c.args.n c.args.reply.now c.requires,
      c.room_for_signed.ensures,
      c.len.ensures,
      c.from.ensures,
      c.room_for_read_part.ensures.enough,
    )
