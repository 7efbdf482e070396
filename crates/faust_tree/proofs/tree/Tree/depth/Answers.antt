use Rattle.faust_tree.proofs.Keeping.{depth-some, kept-is-tree, slot-at}
use Rattle.faust_tree.proofs.tree.Tree.depth.Goals as goal

pub returns-clause-depth : goal.returns-clause-depth
returns-clause-depth c =
    (slot-at c.self.inside.slots.items _ c.args.self.now 0 c.args.a c.index.result.now c.self.invariant c.self.view_is c.requires
    c.index.ensures).slot_is.depth_is

pub returns-clause-some : goal.returns-clause-some
returns-clause-some c =
    depth-some c.args.self.now c.args.a c.index.result.now
    (slot-at c.self.inside.slots.items _ c.args.self.now 0 c.args.a c.index.result.now c.self.invariant c.self.view_is c.requires
    c.index.ensures)

pub returns-clause-few : goal.returns-clause-few
returns-clause-few c =
    (slot-at c.self.inside.slots.items _ c.args.self.now 0 c.args.a c.index.result.now c.self.invariant c.self.view_is c.requires
    c.index.ensures).slot_is.shallow

pub returns-clause-tree : goal.returns-clause-tree
returns-clause-tree c = rw (← c.self.view_is) (kept-is-tree _ _ c.self.invariant)
