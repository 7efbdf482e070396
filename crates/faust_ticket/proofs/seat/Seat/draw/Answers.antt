use Rattle.std.proofs.Common.{rules}
use Rattle.faust_ticket.proofs.Allowed.{draw_allowed}
use Rattle.faust_ticket.proofs.seat.Seat.draw.Goals as goal

pub fetch_add-requires : goal.fetch_add-requires
fetch_add-requires g c = (search rules, search rules, draw_allowed _ _ _ _ c.self.invariant.holder (search rules))
