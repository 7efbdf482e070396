use Rattle.std.proofs.Common.{◌≤◌, length, take}
use Rattle.faust_runs.specs.ForkViews.{fork_views}
use Rattle.faust_views.specs.Forests.{IsForest}
use Rattle.faust_views.proofs.forest.Forest.of.Given as goal

abbrev pub invariant-loop-q : goal.invariant-loop-q
invariant-loop-q l = IsForest l.forest (fork_views l.rec.config (take l.q l.rec.entries)) × (length l.forest.ends ≤ l.q)
