use Rattle.faust_tree.proofs.Keeping.{slot-at}
use Rattle.faust_tree.proofs.tree.Tree.jump.Goals as goal

pub returns : goal.returns
returns c =
    (slot-at c.self.inside.slots.items _ c.args.self.now 0 c.args.a c.index.result.now c.self.invariant c.self.view_is c.requires
    c.index.ensures).slot_is.jump_is
