use Rattle.faust_tree.proofs.Keeping.{kept-is-tree, slot-at}
use Rattle.faust_tree.proofs.tree.Tree.node.Goals as goal

pub returns-clause-earlier : goal.returns-clause-earlier
returns-clause-earlier c =
    (slot-at c.self.inside.slots.items _ c.args.self.now 0 c.args.a c.index.result.now c.self.invariant c.self.view_is c.requires
    c.index.ensures).slot_is.earlier

pub returns-clause-path : goal.returns-clause-path
returns-clause-path c =
    (slot-at c.self.inside.slots.items _ c.args.self.now 0 c.args.a c.index.result.now c.self.invariant c.self.view_is c.requires
    c.index.ensures).path_is

pub returns-clause-tree : goal.returns-clause-tree
returns-clause-tree c = rw (← c.self.view_is) (kept-is-tree _ _ c.self.invariant)
