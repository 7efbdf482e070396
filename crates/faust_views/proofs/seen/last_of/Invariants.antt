use Rattle.std.proofs.Common.{◌≡◌, ◌≤◌, length, take}
use Rattle.faust_views.specs.Forests.{last_end}
use Rattle.faust_views.proofs.seen.last_of.Given as goal

abbrev pub invariant-loop-before : goal.invariant-loop-before
invariant-loop-before l = (l.before ≤ length l.ends) × (last_end l.ends l.i ≡ last_end (take l.before l.ends) l.i)

abbrev pub decreases-loop-before : goal.decreases-loop-before
decreases-loop-before l = l.before
