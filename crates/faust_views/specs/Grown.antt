-- How a tree of fork views grows by a reply. It helps proofs.
use Rattle.std.specs.Prelude.{◌≡◌, ℕ, ◌+◌, ◌<◌, ◌≤◌, cond, List, [], ◌∷◌, ◌++◌, Option, None, length}
use Rattle.faust_types.specs.Clients.{IsClient}
use Rattle.faust_types.specs.Versions.{Vector, clients_of, is_initial, timestamp_at}
use Rattle.faust_types.specs.declared.operation.OpName.{OpName}
use Rattle.faust_types.specs.declared.message.Reply.{Reply}
use Rattle.faust_types.specs.declared.message.Tuple.{Tuple}
use Rattle.faust_names.specs.Histories.{named}
use Rattle.faust_tree.specs.Trees.{IsUnder, path_of, path_under}
use Rattle.faust_tree.specs.declared.node.Node.{Node}

-- A client of a version, of at most 32.
pub record IsClientOf (v : Vector) (k : ℕ) : Type 0 where
  pub in_range : IsClient (clients_of v) k
  pub to_32 : k ≤ 32

-- Each tuple is of a client of the version.
abbrev pub AreOfClients : Vector → List Tuple → Type 0
AreOfClients v [] = Unit {0}
AreOfClients v (tuple ∷ rest) = IsClientOf v tuple.client × AreOfClients v rest

-- What is asked of a reply here: all its clients are those of its version, and it has at most 31 tuples.
pub record IsReply (reply : Reply) : Type 0 where
  pub client : IsClient (clients_of reply.version.version) reply.c
  pub pending_clients : AreOfClients reply.version.version reply.pending
  pub few_pending : length reply.pending ≤ 31

-- Names were put under a place of a tree, and end at another one; the other paths are as before.
pub record Extends (tree after : List Node) (base place : Option ℕ) (names : List OpName) : Type 0 where
  pub inside : IsUnder after place
  pub path_is : path_under after place ≡ path_under tree base ++ names
  pub kept : (k : ℕ) → k < length tree → path_of after k ≡ path_of tree k
  pub longer : length tree ≤ length after
  pub few : length after ≤ length tree + length names

-- The place for which the version of a reply stands, by the places of operations.
abbrev pub base_at : (OpName → Option ℕ) → Reply → Option ℕ
base_at places reply =
    cond (is_initial reply.version.version) None (places (named reply.c (timestamp_at reply.version.version reply.c)))
