use Rattle.std.proofs.Common.{sym}
use Rattle.faust_store.proofs.Counting.{number_none, number_same}
use Rattle.faust_store.proofs.entry_line.is_number_of.Goals as goal

pub returns-in-Some : goal.returns-in-Some
returns-in-Some c = number_same c.args.token.now c.in-Some.found c.args.count c.ranges.count.fits (sym c.in-Some.ensures)

pub returns-in-None : goal.returns-in-None
returns-in-None c = number_none c.args.token.now c.args.count c.ranges.count.fits (sym c.in-None.ensures)
