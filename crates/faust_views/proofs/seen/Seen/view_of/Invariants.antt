use Rattle.std.proofs.Common.{◌≡◌, ℕ, suc, ◌++◌, [], Option, None, Some, reverse}
use Rattle.faust_record.specs.Runs.{Run}
use Rattle.faust_tree.specs.Trees.{IsUnder, path_under}
use Rattle.faust_runs.specs.ForkViews.{fork_views, kept_behind, stays, view_of}
use Rattle.faust_views.specs.Forests.{IsSeenOf}
use Rattle.faust_views.proofs.seen.Seen.view_of.Given as goal

abbrev pub invariant-loop-place : goal.invariant-loop-place
invariant-loop-place l =
    IsUnder l.self.forest.tree l.place
    × ((run : Run) → IsSeenOf run l.self → view_of run.config run.entries l.i
    ≡ kept_behind (stays run.entries (fork_views run.config run.entries)) [] (path_under l.self.forest.tree l.place)
    ++ reverse l.names.items)

abbrev height : Option ℕ → ℕ
height None = 0
height (Some node) = suc node

abbrev pub decreases-loop-place : goal.decreases-loop-place
decreases-loop-place l = height l.place
