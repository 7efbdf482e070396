use Rattle.std.proofs.Common.{◌≡◌, ◌+◌, drop, take}
use Rattle.faust_record.specs.Merging.{first_stranger}
use Rattle.faust_record.specs.Journals.{AreJournals}
use Rattle.faust_record.proofs.merging.first_stranger.Given as goal

abbrev pub invariant-loop-before : goal.invariant-loop-before
invariant-loop-before l =
    (first_stranger (l.before + 1) (drop l.before l.journals) ≡ first_stranger 1 l.journals) × (AreJournals (take l.before l.journals))
