-- Trees of names, the paths of their nodes, and what adding a name does: every promise of this crate rests on this
-- file.
use Rattle.std.specs.Prelude.{◌≡◌, ℕ, ◌<◌, List, [], ◌∷◌, ◌++◌, Option, Some, None, IfSome, length, slice_get, slice_index_or}
use Rattle.faust_types.specs.declared.operation.OpName.{OpName}
use Rattle.faust_tree.specs.declared.node.Node.{Node}

-- The path to a place, given the paths of nodes: at the top no names, under a node the path of that node.
abbrev pub path_above : List (List OpName) → Option ℕ → List OpName
path_above paths None = []
path_above paths (Some above) = slice_index_or paths above []

-- The path of a node, given the paths of the nodes before it: the path to its place, and then its name.
abbrev pub path_to : List (List OpName) → Node → List OpName
path_to paths node = path_above paths node.under ++ node.name ∷ []

-- The paths of all nodes in order, so each is the list of the names from the top to its node.
abbrev pub paths_onto : List (List OpName) → List Node → List (List OpName)
paths_onto paths [] = paths
paths_onto paths (node ∷ rest) = paths_onto (paths ++ path_to paths node ∷ []) rest

unfoldable pub paths_of : List Node → List (List OpName)
paths_of tree = paths_onto [] tree

abbrev pub path_of : List Node → ℕ → List OpName
path_of tree a = slice_index_or (paths_of tree) a []

-- The path to a place of a tree: the top, or under a node.
abbrev pub path_under : List Node → Option ℕ → List OpName
path_under tree under = path_above (paths_of tree) under

-- The top, or under a node of the tree.
abbrev pub IsUnder : List Node → Option ℕ → Type 0
IsUnder tree under = IfSome under (λ above. above < length tree)

-- No node of that name stands at that place.
abbrev pub IsNew : List Node → Node → Type 0
IsNew tree node = (k : ℕ) → slice_get tree k ≡ Some node → ⊥

-- Each node stands at the top or under an earlier one, and no two nodes of one name stand at one place.
pub record IsTree (tree : List Node) : Type 0 where
  pub earlier : (k : ℕ) (node : Node) → slice_get tree k ≡ Some node → IfSome node.under (λ above. above < k)
  pub one : (k l : ℕ) (node : Node) → slice_get tree k ≡ Some node → slice_get tree l ≡ Some node → k ≡ l

-- Adding answers the node of that name at that place. It is made, at the end, only where there was none.
pub data Adds (tree : List Node) (node : Node) (after : List Node) (k : ℕ) : Type 0 where
  found : slice_get tree k ≡ Some node → after ≡ tree → Adds tree node after k
  made : IsNew tree node → k ≡ length tree → after ≡ tree ++ node ∷ [] → Adds tree node after k

-- A list of names begins with another one.
pub record IsPrefix (front whole : List OpName) : Type 0 where
  pub rest : List OpName
  pub is_whole : whole ≡ front ++ rest
