use Rattle.faust_tree.proofs.Keeping.{slot-first, slot-next}
use Rattle.faust_tree.proofs.tree.Tree.slot_of.Goals as goal

pub returns-in-None : goal.returns-in-None
returns-in-None c = rw c.len.ensures.len (slot-first c.args.self.now c.args.node c.in-None.is)

pub returns-in-Some : goal.returns-in-Some
returns-in-Some c =
    slot-next c.args.self.now c.args.node c.in-Some.above c.depth.result c.jump_under.result c.in-Some.is
    (rw c.in-Some.is at c.requires.place) c.depth.ensures.depth c.depth.ensures.few c.jump_under.ensures.within
    c.jump_under.ensures.prefix
