use Rattle.std.proofs.Common.{◌≡◌, drop}
use Rattle.std.specs.List.{list_any}
use Rattle.faust_record.specs.Runs.{entries_of}
use Rattle.faust_receipts.specs.Lines.{has_notice}
use Rattle.faust_receipts.proofs.shortage.has_notice.Given as goal

abbrev pub invariant-loop-q : goal.invariant-loop-q
invariant-loop-q l = list_any has_notice (entries_of l.client l.rec.entries)
    ≡ list_any has_notice (entries_of l.client (drop l.q l.rec.entries))
