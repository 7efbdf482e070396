use Rattle.faust_tree.proofs.Keeping.{kept-is-tree}
use Rattle.faust_tree.proofs.tree.Tree.len.Goals as goal

pub returns-clause-tree : goal.returns-clause-tree
returns-clause-tree c = rw (← c.self.view_is) (kept-is-tree _ _ c.self.invariant)
