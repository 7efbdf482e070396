use Rattle.std.proofs.Common.{rules, ap}
use Rattle.faust_ticket.proofs.Allowed.{join_allowed}
use Rattle.faust_ticket.proofs.root.Root.join.Goals as goal

pub join_seat-requires : goal.join_seat-requires
join_seat-requires g c = (
  search rules,
  search rules,
  search rules,
  search rules,
  join_allowed _ _ _ _ _ _ (ap (λ m. m.0) c.self.invariant.holder) (ap (λ m. m.0) c.into_parts-table.ensures.holder),
)
