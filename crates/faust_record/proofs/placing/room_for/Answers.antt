use Rattle.std.proofs.Common.{◌≡◌, ◌+◌, ◌++◌, ◌∷◌, [], List, length, take, ap, sym, ◌∙◌, arith, length-append}
use Rattle.std.proofs.lemmas.List.{take_more}
use Rattle.faust_record.specs.Journals.{Log}
use Rattle.faust_record.specs.Merging.{logged_in}
use Rattle.faust_record.specs.declared.entry.Entry.{Entry}
use Rattle.faust_record.proofs.Tables.{logged_in-last}
use Rattle.faust_record.proofs.placing.room_for.Goals as goal

pub loop-before-preserved : goal.loop-before-preserved
loop-before-preserved c =
    let logs = c.args.journals.now in
    let log : Log = c.at.result.now in
    let before = c.loop-before.before in
    let more : take (before + 1) logs ≡ take before logs ++ log ∷ [] =
    take_more logs before log (omega (arith, c.loop-before-test.true, c.len-before-end.ensures))
    ∙ ap (λ (l : Log). take before logs ++ l ∷ []) (sym (c.at.ensures log)) in
    let longer : length (logged_in (take (before + 1) logs)) ≡ length (logged_in (take before logs)) + length log.entries =
    ap (λ (l : List Log). length (logged_in l)) more ∙ ap (length {A = Entry}) (logged_in-last (take before logs) log)
    ∙ length-append (logged_in (take before logs)) log.entries in
    omega (arith, longer, c.in_ok-add_blanks.ensures, c.len.ensures, c.loop-before.invariant)
