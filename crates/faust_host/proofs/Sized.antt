-- A reply in range can be sent as one frame.
use Rattle.std.proofs.Common.{ℕ, ◌≤◌, length, arith}
use Rattle.faust_types.specs.Clients.{IsClientCount}
use Rattle.faust_types.specs.Ranges.{IsReplyFor}
use Rattle.faust_types.specs.declared.message.Reply.{Reply}
use Rattle.faust_link.specs.Frames.{IsFrame}
use Rattle.faust_wire.specs.Grammar.{reply_bytes}
use Rattle.faust_wire.proofs.Lengths.{reply_at_most}

not_empty : (wire : ℕ) (m : Reply) → 1 ≤ length (reply_bytes wire m)
unfolding reply_bytes
not_empty wire m = omega arith

pub reply_is_frame : (n : ℕ) (m : Reply) → IsClientCount n → IsReplyFor n m → IsFrame (reply_bytes 1 m)
reply_is_frame n m count fits =
    let most = reply_at_most 1 n m count fits in
    let least = not_empty 1 m in
    record { some = least; few = omega (arith, most) }
