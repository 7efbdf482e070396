use Rattle.faust_liar.proofs.Calls.{replies-range}
use Rattle.faust_liar.proofs.liar.Liar.again.Goals as goal

pub again-requires-clause-in_range : goal.again-requires-clause-in_range
again-requires-clause-in_range c =
    replies-range _ c.args.self.now c.self.view_is c.self.invariant c.args.i c.from.result c.requires c.from.ensures c.index.result.now
    c.index.ensures c.args.k c.clients.result c.clients.ensures.count
