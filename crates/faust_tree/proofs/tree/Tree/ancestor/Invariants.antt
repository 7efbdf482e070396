use Rattle.std.proofs.Common.{◌≤◌, ◌<◌, length}
use Rattle.faust_tree.specs.Trees.{IsPrefix, path_of}
use Rattle.faust_tree.proofs.tree.Tree.ancestor.Given as goal

abbrev pub invariant-loop-node : goal.invariant-loop-node
invariant-loop-node l =
    (l.node < length l.self) × IsPrefix (path_of l.self l.node) (path_of l.self l.a) × (l.depth ≤ length (path_of l.self l.node))

abbrev pub decreases-loop-node : goal.decreases-loop-node
decreases-loop-node l = length (path_of l.self l.node)
