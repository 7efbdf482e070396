use Rattle.std.proofs.Common.{rules, ap}
use Rattle.faust_ticket.proofs.Allowed.{split_allowed}
use Rattle.faust_ticket.proofs.root.Root.split.Goals as goal

pub split_seat-token-requires : goal.split_seat-token-requires
split_seat-token-requires g c = (search rules, search rules, split_allowed _ _ _ (ap (λ m. m.0) c.self.invariant.holder) (search rules))
