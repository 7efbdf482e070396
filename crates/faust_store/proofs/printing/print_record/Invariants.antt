use Rattle.std.proofs.Common.{◌≡◌, ◌++◌}
use Rattle.faust_store.proofs.PrintedText.{before_end, text_from}
use Rattle.faust_store.proofs.printing.print_record.Given as goal

abbrev pub invariant-loop-q : goal.invariant-loop-q
invariant-loop-q l = l.text ++ text_from l.version l.run.entries l.q ≡ before_end l.run l.version
