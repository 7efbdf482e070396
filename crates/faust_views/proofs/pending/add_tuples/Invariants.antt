use Rattle.std.proofs.Common.{[], take}
use Rattle.faust_runs.specs.ForkViews.{names_on}
use Rattle.faust_views.specs.Grown.{Extends}
use Rattle.faust_views.proofs.Numbered.{AreCounted, passed}
use Rattle.faust_views.proofs.pending.add_tuples.Given as goal

abbrev pub invariant-loop-tuple : goal.invariant-loop-tuple
invariant-loop-tuple l =
    Extends l.initial.tree l.tree l.fn.base l.place (names_on l.version [] (take l.tuple-index l.pending))
    × AreCounted l.counts (passed [] (take l.tuple-index l.pending))
