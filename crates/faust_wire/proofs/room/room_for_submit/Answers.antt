use Rattle.std.proofs.Common.{arith}
use Rattle.faust_wire.proofs.Lengths.{length-submit, length-written}
use Rattle.faust_wire.proofs.room.room_for_submit.Goals as goal

pub returns : goal.returns
returns c =
    omega (
      arith,
      length-submit c.args.wire c.args.n c.args.submit.now c.requires,
      length-written c.args.submit.now.value,
      c.room_for_value-written.ensures.enough,
      c.room_for_riding.ensures.enough,
    )
