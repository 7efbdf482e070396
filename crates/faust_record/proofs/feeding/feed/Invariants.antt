use Rattle.std.proofs.Common.{drop, take}
use Rattle.faust_record.specs.Placing.{AreFedTo}
use Rattle.faust_record.proofs.feeding.feed.Given as goal

abbrev pub invariant-loop-q : goal.invariant-loop-q
invariant-loop-q l = AreFedTo l.n l.outboxes.items (take l.q l.entries) (drop l.q l.entries) l.entries
