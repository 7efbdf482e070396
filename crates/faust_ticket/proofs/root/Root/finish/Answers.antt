use Rattle.std.proofs.Common.{rules}
use Rattle.faust_ticket.proofs.Allowed.{finish_allowed}
use Rattle.faust_ticket.proofs.Once.{count_is}
use Rattle.faust_ticket.proofs.root.Root.finish.Goals as goal

pub load-requires : goal.load-requires
load-requires g c = (search rules, search rules, finish_allowed _ _ _ _ c.self.invariant.holder)

pub returns-clause-count : goal.returns-clause-count
returns-clause-count g c = count_is _ _ (search rules)
