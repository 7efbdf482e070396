use Rattle.faust_liar.proofs.Calls.{taken-due, kept-taken, taken-ok}
use Rattle.faust_liar.proofs.liar.Liar.take_one.Goals as goal

pub take_one-requires : goal.take_one-requires
take_one-requires c =
    taken-due _ c.args.self.now c.self.view_is c.self.invariant c.args.i c.from.result c.requires.client c.from.ensures
    c.index_mut.result.now c.index_mut.ensures.value c.args.reply c.requires.next

pub invariant_of-self : goal.invariant_of-self
invariant_of-self c =
    kept-taken _ c.args.self.now c.self.view_is c.self.invariant c.args.i c.from.result c.requires.client c.from.ensures
    c.index_mut.result.now c.index_mut.ensures.value c.take_one.result c.take_one.new.self c.args.reply c.requires.next
    c.take_one.ensures.ok c.take_one.ensures.err

pub returns-clause-ok : goal.returns-clause-ok
returns-clause-ok c =
    taken-ok _ c.args.self.now c.self.view_is c.self.invariant c.args.i c.from.result c.requires.client c.from.ensures
    c.index_mut.result.now c.index_mut.ensures.value c.take_one.result c.take_one.new.self c.take_one.ensures.ok
