-- What is kept while a record is read, and what views are read off. It helps proofs.
use Rattle.std.specs.Prelude.{◌≡◌, ℕ, ◌+◌, ◌*◌, ◌^◌, ◌<◌, ◌≤◌, ◌==◌, cond, List, [], ◌∷◌, Option, Some, None, length}
use Rattle.std.specs.BTreeMap.{get}
use Rattle.faust_types.specs.declared.operation.OpName.{OpName}
use Rattle.faust_forks.specs.Books.{or_else}
use Rattle.faust_record.specs.Operations.{is_named}
use Rattle.faust_record.specs.Runs.{Run}
use Rattle.faust_runs.specs.ForkViews.{ForkView, fork_views}
use Rattle.faust_views.specs.Forks.{AreEnds}
use Rattle.faust_views.specs.Keys.{key_of, key_order}
use Rattle.faust_views.specs.Noted.{AreNoted}
use Rattle.faust_views.specs.declared.forest.Forest.{Forest}
use Rattle.faust_views.specs.declared.seen.Seen.{Seen}

-- The node at the end of an operation, if it completed: the last one with its name counts.
abbrev pub found_end : List (OpName × ℕ) → OpName → Option ℕ
found_end [] name = None
found_end (end ∷ ends) name = or_else (found_end ends name) (cond (is_named end.0 name) (Some end.1) None)

-- The node at the end of the last completed operation of client i.
abbrev pub last_end : List (OpName × ℕ) → ℕ → Option ℕ
last_end [] i = None
last_end (end ∷ ends) i = or_else (last_end ends i) (cond (end.0.client == i) (Some end.1) None)

-- The forest has these fork views, and each end is found under its name.
pub record IsForest (forest : Forest) (views : List ForkView) : Type 0 where
  pub ends_are : AreEnds forest.tree forest.ends views
  pub found : (name : OpName) → get key_order forest.places (key_of name) ≡ found_end forest.ends name
  pub few : length forest.tree ≤ 32 * length forest.ends

-- The forest has some fork views, and there is room for one more.
pub record HasRoom (forest : Forest) : Type 0 where
  pub views : List ForkView
  pub forest_is : IsForest forest views
  pub room : length forest.ends + 1 < 2 ^ 27

-- What views are read off is that of a run; and that of some run.
pub record IsSeenOf (run : Run) (seen : Seen) : Type 0 where
  pub forest_is : IsForest seen.forest (fork_views run.config run.entries)
  pub noted : AreNoted seen.writes.kinds.items run.entries

pub record IsSeen (seen : Seen) : Type 0 where
  pub run : Run
  pub seen_of : IsSeenOf run seen
