use Rattle.std.proofs.Common.{◌≡◌, ◌++◌, length, map, ap, ◌∙◌}
use Rattle.faust_record.specs.Journals.{member_of}
use Rattle.faust_record.specs.Merging.{logged_in}
use Rattle.faust_record.specs.Placing.{AreBelow, placed}
use Rattle.faust_record.proofs.Tables.{agents-last, behind-below, logged_in-last, put-behind}
use Rattle.faust_record.proofs.placing.put_journals.Goals as goal

pub put_entries-requires : goal.put_entries-requires
put_entries-requires c =
    let log = c.in-Some.journal in
    let last : logged_in c.loop-journal.journals ≡ logged_in c.pop.new.self ++ log.entries =
    ap logged_in c.in-Some.ensures.taken ∙ logged_in-last c.pop.new.self log in
    rw c.into_parts-agent.ensures.entries
    (behind-below (length c.loop-journal.table) (logged_in c.loop-journal.journals) (logged_in c.pop.new.self) log.entries last
    c.loop-journal.invariant.1)

pub loop-journal-preserved : goal.loop-journal-preserved
loop-journal-preserved c =
    let log = c.in-Some.journal in
    let last : logged_in c.loop-journal.journals ≡ logged_in c.pop.new.self ++ log.entries =
    ap logged_in c.in-Some.ensures.taken ∙ logged_in-last c.pop.new.self log in
    let put : c.put_entries.new.table ≡ placed c.loop-journal.table log.entries =
    c.put_entries.ensures ∙ ap (placed c.loop-journal.table) c.into_parts-agent.ensures.entries in
    let table = put-behind c.loop-journal.table c.put_entries.new.table (logged_in c.loop-journal.journals)
    (logged_in c.pop.new.self) log.entries
    (placed c.args.table.now (logged_in c.args.journals)) last put c.loop-journal.invariant.0 c.loop-journal.invariant.1 in (
      table.0,
      table.1,
      agents-last c.loop-journal.journals c.pop.new.self log c.loop-journal.agents.items c.push.new.self.items c.into_parts-agent.result.0
          (map member_of c.args.journals) c.in-Some.ensures.taken c.in_ok-push.ensures.items c.into_parts-agent.ensures.agent
          c.loop-journal.invariant.2,
    )
