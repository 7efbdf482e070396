-- What a tree keeps in memory: its nodes with their depths and jumps, and a map in which each node is found. It helps
-- proofs.
use Rattle.std.specs.Prelude.{◌≡◌, ℕ, ◌^◌, ◌<◌, List, Option, Some, length, map, slice_get}
use Rattle.std.specs.BTreeMap.{get}
use Rattle.faust_tree.specs.Trees.{paths_of}
use Rattle.faust_tree.specs.Kept.{IsSlot, child_of}
use Rattle.faust_tree.specs.declared.node.Node.{Node}
use Rattle.faust_tree.specs.declared.node.Slot.{Slot}
use Rattle.faust_tree.specs.declared.node.Child.{Child}
use Rattle.faust_tree.specs.declared.tree.Tree.TheInside.{Inside}
use Rattle.faust_tree.specs.contracts.node.ChildOrd.TheImpl as child_ord
use Rattle.std.specs.declared.cmp.Ordering.{Ordering}

-- The order of the keys.
abbrev pub child_order : Child → Child → Ordering
child_order = (child_ord.ghosts).cmp

abbrev pub nodes_of : List Slot → List Node
nodes_of slots = map (λ (slot : Slot). slot.node) slots

abbrev pub tree_of : Inside → List Node
tree_of tree = nodes_of tree.slots.items

-- Each node is found under its key, and nothing else is.
pub record AreFound (nodes : List Node) (find : Child → Option ℕ) : Type 0 where
  pub each : (k : ℕ) (node : Node) → slice_get nodes k ≡ Some node → find (child_of node) ≡ Some k
  pub only : (node : Node) (k : ℕ) → find (child_of node) ≡ Some k → slice_get nodes k ≡ Some node

pub record IsKept (slots : List Slot) (find : Child → Option ℕ) : Type 0 where
  pub slots_are : (a : ℕ) (slot : Slot) → slice_get slots a ≡ Some slot → IsSlot (paths_of (nodes_of slots)) a slot
  pub found : AreFound (nodes_of slots) find
  pub few : length slots < 2 ^ 32

abbrev pub IsKeptTree : Inside → Type 0
IsKeptTree tree = IsKept tree.slots.items (get child_order tree.children)
