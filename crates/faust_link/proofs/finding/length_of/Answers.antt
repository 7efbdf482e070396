use Rattle.std.proofs.Common.{rules}
use Rattle.std.proofs.lemmas.Nat.{be_bytes_4}
use Rattle.faust_link.proofs.finding.length_of.Goals as goal

pub returns-clause-spelled : goal.returns-clause-spelled
returns-clause-spelled c = be_bytes_4 c.args.spelled.now _ c.told-spelled c.fits-spelled (search rules)
