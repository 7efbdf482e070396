use Rattle.std.proofs.Common.{◌≡◌, ℕ, ◌-◌, ◌≤◌, [], length, get_or}
use Rattle.faust_runs.specs.ForkViews.{view_of}
use Rattle.faust_views.proofs.calls.views.Given as goal

abbrev pub invariant-loop-before : goal.invariant-loop-before
invariant-loop-before l =
    (length l.views ≡ l.before)
    × ((i : ℕ) → 1 ≤ i → i ≤ l.before → get_or l.views (i - 1) [] ≡ view_of l.fn.rec.config l.fn.rec.entries i)
