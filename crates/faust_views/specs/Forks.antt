-- What a tree and its ends have to do with the fork views of a record, and what the list of all views is. The promises
-- of this crate rest on this file.
use Rattle.std.specs.Prelude.{◌≡◌, ℕ, ◌-◌, ◌<◌, zero, suc, List, [], ◌∷◌, ◌++◌, length, slice_index_or}
use Rattle.faust_types.specs.Clients.{IsClient}
use Rattle.faust_types.specs.declared.operation.OpName.{OpName}
use Rattle.faust_record.specs.Runs.{Run}
use Rattle.faust_tree.specs.Trees.{path_of}
use Rattle.faust_tree.specs.declared.node.Node.{Node}
use Rattle.faust_runs.specs.ForkViews.{ForkView, view_of}

-- An end of a tree is that of a fork view: it has the name of its operation, and its path is the fork view.
pub record IsEnd (tree : List Node) (name : OpName) (node : ℕ) (view : ForkView) : Type 0 where
  pub name_is : name ≡ view.op
  pub inside : node < length tree
  pub path_is : path_of tree node ≡ view.names

-- The ends are those of the fork views, one for each and in their order.
abbrev pub AreEnds : List Node → List (OpName × ℕ) → List ForkView → Type 0
AreEnds tree [] [] = Unit {0}
AreEnds tree [] (view ∷ views) = ⊥
AreEnds tree (end ∷ ends) [] = ⊥
AreEnds tree (end ∷ ends) (view ∷ views) = IsEnd tree end.0 end.1 view × AreEnds tree ends views

-- The list of client i among the lists of all clients, that of client 1 first.
abbrev pub list_of : List (List OpName) → ℕ → List OpName
list_of views i = slice_index_or views (i - 1) []

-- The views of all clients of a run.
pub record AreViews (run : Run) (views : List (List OpName)) : Type 0 where
  pub counted : length views ≡ run.config.clients
  pub each : (i : ℕ) → IsClient run.config.clients i → list_of views i ≡ view_of run.config run.entries i

-- The same as one list: the views of clients 1 to k, and of all clients.
abbrev pub views_to : Run → ℕ → List (List OpName)
views_to run zero = []
views_to run (suc k) = views_to run k ++ view_of run.config run.entries (suc k) ∷ []

abbrev pub views_of : Run → List (List OpName)
views_of run = views_to run run.config.clients
