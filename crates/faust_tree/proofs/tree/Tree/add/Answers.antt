use Rattle.faust_tree.proofs.Keeping.{path-added, path-found, paths-added}
use Rattle.faust_tree.proofs.tree.Tree.add.Goals as goal

pub returns-in-Some-clause-path : goal.returns-in-Some-clause-path
returns-in-Some-clause-path c = path-found c.args.self.now _ c.in-Some.number c.find.ensures.tree c.in-Some.ensures.found

pub returns-clause-path : goal.returns-clause-path
returns-clause-path c =
    path-added c.put.result c.args.self.now c.put.new.self _ c.slot_of-slot.result.node c.slot_of-slot.ensures.node_is c.put.ensures.ok

pub returns-clause-kept : goal.returns-clause-kept
returns-clause-kept c =
    paths-added c.put.result c.args.self.now c.put.new.self c.slot_of-slot.result.node c.put.ensures.ok c.put.ensures.err
