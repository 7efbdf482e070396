-- What is kept of each node besides the node, and the key under which a node is looked up. It helps proofs.
use Rattle.std.specs.Prelude.{◌≡◌, ℕ, ◌+◌, ◌<◌, ◌≤◌, List, [], ◌∷◌, ◌++◌, IfSome, length, slice_index_or}
use Rattle.faust_types.specs.declared.operation.OpName.{OpName}
use Rattle.faust_tree.specs.Trees.{IsPrefix, path_to, paths_of}
use Rattle.faust_tree.specs.declared.node.Node.{Node}
use Rattle.faust_tree.specs.declared.node.Slot.{Slot}
use Rattle.faust_tree.specs.declared.node.Child.{Child}

abbrev pub child_of : Node → Child
child_of node = record { under = node.under; client = node.name.client; t = node.name.t }

-- The path of one node ends above another one, or at it: a jump goes to a node on the path, nearer to the top where
-- the path has two names or more.
pub record IsJumpIn (paths : List (List OpName)) (a jump : ℕ) : Type 0 where
  pub within : jump ≤ a
  pub prefix : IsPrefix (slice_index_or paths jump []) (slice_index_or paths a [])
  pub nearer : 2 ≤ length (slice_index_or paths a []) → length (slice_index_or paths jump []) < length (slice_index_or paths a [])

abbrev pub IsJump : List Node → ℕ → ℕ → Type 0
IsJump tree a jump = IsJumpIn (paths_of tree) a jump

-- What is kept of a node at place a.
pub record IsSlot (paths : List (List OpName)) (a : ℕ) (slot : Slot) : Type 0 where
  pub earlier : IfSome slot.node.under (λ above. above < a)
  pub depth_is : slot.depth ≡ length (slice_index_or paths a [])
  pub shallow : slot.depth ≤ a + 1
  pub jump_is : IsJumpIn paths a slot.jump

-- What will be kept of one more node.
abbrev pub paths_with : List Node → Node → List (List OpName)
paths_with tree node = paths_of tree ++ path_to (paths_of tree) node ∷ []

pub record IsSlotFor (tree : List Node) (node : Node) (slot : Slot) : Type 0 where
  pub node_is : slot.node ≡ node
  pub slot_is : IsSlot (paths_with tree node) (length tree) slot
