use Rattle.faust_record.specs.Placing.{placed}
use Rattle.faust_record.proofs.Tables.{last-below, put-last}
use Rattle.std.proofs.Common.{length}
use Rattle.faust_record.proofs.placing.put_entries.Goals as goal

pub set-requires : goal.set-requires
set-requires c =
    last-below (length c.loop-entry.table) c.loop-entry.entries c.pop.new.self c.in-Some.entry c.in-Some.ensures.taken
    c.loop-entry.invariant.1

pub loop-entry-preserved : goal.loop-entry-preserved
loop-entry-preserved c =
    put-last c.loop-entry.table c.set.new.self c.loop-entry.entries c.pop.new.self (placed c.args.table.now c.args.entries) c.in-Some.entry
    c.in-Some.ensures.taken c.set.ensures c.loop-entry.invariant.0 c.loop-entry.invariant.1
