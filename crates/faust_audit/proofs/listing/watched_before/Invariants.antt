use Rattle.std.proofs.Common.{◌≡◌, take}
use Rattle.faust_record.specs.Entries.{replay}
use Rattle.faust_record.specs.Runs.{entries_of}
use Rattle.faust_audit.specs.Watching.{watched_of}
use Rattle.faust_audit.proofs.listing.watched_before.Given as goal

abbrev pub invariant-loop-p : goal.invariant-loop-p
invariant-loop-p l =
    l.watched ≡ watched_of l.i (replay l.rec.config l.i (entries_of l.i (take l.p l.rec.entries)))
