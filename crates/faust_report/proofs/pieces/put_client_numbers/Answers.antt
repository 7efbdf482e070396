use Rattle.std.proofs.Common.{arith}
use Rattle.std.specs.Fmt.{decimal}
use Rattle.faust_report.specs.Text.{client_text}
use Rattle.std.proofs.lemmas.Grind.{common_steps}
use Rattle.faust_report.proofs.Pieced.{joined_map}
use Rattle.faust_report.proofs.pieces.put_client_numbers.Goals as goal

pub returns : goal.returns
returns c = rw (joined_map decimal (client_text c.args.client) c.args.numbers.now) (grind (arith, common_steps))
