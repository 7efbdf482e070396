use Rattle.std.proofs.Common.{◌≡◌, List, [], length, Ok, sym, ap, ◌∙◌, subst}
use Rattle.std.proofs.lemmas.Result.{err_from_is_err_and}
use Rattle.faust_record.specs.Runs.{Run}
use Rattle.faust_record.specs.Kept.{AreParts}
use Rattle.faust_record.specs.Merging.{MergeRefuses, Merges, by_number, first_frame, gathered, merged}
use Rattle.faust_record.specs.Placing.{AreAllFed, ArePlacedFor, IsFirstFrame}
use Rattle.faust_record.specs.declared.entry.Entry.{Entry}
use Rattle.faust_record.proofs.Merged.{arrivals-below, frame-due, logs-below, merge-due, merged-parts, placed-gathered, stranger-due, table-is}
use Rattle.faust_record.proofs.run_record.RunRecord.merge.Goals as goal

pub returns-in-Some : goal.returns-in-Some
returns-in-Some c = stranger-due c.args.config c.args.journals c.args.arrivals c.in-Some.stranger (sym c.in-Some.ensures.stranger)

pub put_arrivals-requires : goal.put_arrivals-requires
put_arrivals-requires c =
    arrivals-below c.args.journals c.args.arrivals (length c.in_ok-entries.entries) c.requires.numbers c.in_ok-entries.ensures

pub put_journals-requires : goal.put_journals-requires
put_journals-requires c =
    logs-below c.args.journals c.args.arrivals c.in_ok-entries.entries c.put_arrivals.new.table c.requires.numbers c.in_ok-entries.ensures
    c.put_arrivals.ensures

pub feed-requires : goal.feed-requires
feed-requires c =
    let table = table-is c.args.journals c.args.arrivals c.in_ok-entries.entries c.put_arrivals.new.table c.put_journals.new.table
    c.requires.numbers c.in_ok-entries.ensures c.put_arrivals.ensures c.in_ok-agents.ensures.placed in
    subst (ArePlacedFor c.args.config.clients) (sym table)
    (placed-gathered c.args.config c.args.journals c.args.arrivals c.in_default.ensures.journals c.requires.one_config)

pub returns-in_err-outboxes : goal.returns-in_err-outboxes
returns-in_err-outboxes c =
    let table = table-is c.args.journals c.args.arrivals c.in_ok-entries.entries c.put_arrivals.new.table c.put_journals.new.table
    c.requires.numbers c.in_ok-entries.ensures c.put_arrivals.ensures c.in_ok-agents.ensures.placed in
    let e = c.in_err-outboxes.field-0.0 in
    let frame : IsFirstFrame e (first_frame [] (by_number (gathered c.args.journals c.args.arrivals))) =
    subst (λ (l : List Entry). IsFirstFrame e (first_frame [] l)) table c.in_err-outboxes.ensures in
    let due = frame-due c.args.config c.args.journals c.args.arrivals e (sym c.in_default.ensures.stranger) frame in
    let p = err_from_is_err_and c.from_residual-in_err-outboxes.result c.from_residual-in_err-outboxes.ensures.1 in
    rw (p.1, p.2) due

pub from_parts-requires : goal.from_parts-requires
from_parts-requires c =
    let table = table-is c.args.journals c.args.arrivals c.in_ok-entries.entries c.put_arrivals.new.table c.put_journals.new.table
    c.requires.numbers c.in_ok-entries.ensures c.put_arrivals.ensures c.in_ok-agents.ensures.placed in
    let outboxes = c.in_ok-outboxes.outboxes.items in
    let fed = subst (AreAllFed c.args.config.clients outboxes) table c.in_ok-outboxes.ensures in
    subst (AreParts c.args.config c.in_ok-agents.agents.items outboxes) (sym table)
    (merged-parts c.args.config c.args.journals c.args.arrivals c.in_ok-agents.agents.items outboxes c.requires.config c.requires.count
    c.requires.one_config c.requires.numbers (sym c.in_default.ensures.stranger) c.in_default.ensures.journals
    c.in_ok-agents.ensures.agents fed)

pub returns : goal.returns
returns c =
    let table = table-is c.args.journals c.args.arrivals c.in_ok-entries.entries c.put_arrivals.new.table c.put_journals.new.table
    c.requires.numbers c.in_ok-entries.ensures c.put_arrivals.ensures c.in_ok-agents.ensures.placed in
    let outboxes = c.in_ok-outboxes.outboxes.items in
    let fed = subst (AreAllFed c.args.config.clients outboxes) table c.in_ok-outboxes.ensures in
    let run : List Entry → Run = λ (l : List Entry). record { config = c.args.config; entries = l } in
    merge-due c.args.config c.args.journals c.args.arrivals (sym c.in_default.ensures.stranger) fed.none_left
    ∙ ap (λ (l : List Entry). Ok (run l)) (sym table) ∙ ap (λ (r : Run). Ok r) (sym c.from_parts.ensures)
