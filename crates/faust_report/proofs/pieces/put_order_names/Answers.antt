use Rattle.std.proofs.Common.{arith}
use Rattle.std.specs.Prelude.{codes}
use Rattle.faust_report.specs.Text.{name_text}
use Rattle.std.proofs.lemmas.Grind.{common_steps}
use Rattle.faust_report.proofs.Pieced.{joined_map}
use Rattle.faust_report.proofs.pieces.put_order_names.Goals as goal

pub returns : goal.returns
returns c = rw (joined_map name_text (codes "order:") c.args.names.now) (grind (arith, common_steps))
