use Rattle.std.proofs.Common.{◌≡◌, ℕ, suc, ◌++◌, Option, None, Some, reverse}
use Rattle.faust_tree.specs.Trees.{IsUnder, path_of, path_under}
use Rattle.faust_tree.proofs.tree.Tree.path.Given as goal

abbrev pub invariant-loop-place : goal.invariant-loop-place
invariant-loop-place l =
    IsUnder l.self l.place × (path_of l.self l.a ≡ path_under l.self l.place ++ reverse l.names.items)

abbrev height : Option ℕ → ℕ
height None = 0
height (Some node) = suc node

abbrev pub decreases-loop-place : goal.decreases-loop-place
decreases-loop-place l = height l.place
