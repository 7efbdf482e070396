use Rattle.std.proofs.Common.{sym, ◌∙◌}
use Rattle.std.proofs.lemmas.Option.{same_Some}
use Rattle.faust_wire.proofs.Messages.{message_only}
use Rattle.faust_liar.proofs.Spelled.{spelled-by}
use Rattle.faust_liar.proofs.kept_message.Kept.of.Goals as goal

pub of_bytes-requires : goal.of_bytes-requires
of_bytes-requires c =
    spelled-by c.args.wire c.args.n c.in_ok-bytes.bytes c.args.message.now c.requires.wire c.requires.count
    (record { in_range = c.requires.in_range; for_wire = c.requires.rides; spelled = c.in_ok-bytes.ensures })

pub returns : goal.returns
returns c =
    same_Some c.of_bytes.result c.args.message.now (
    sym c.of_bytes.ensures
    ∙ message_only c.args.wire c.args.n c.in_ok-bytes.bytes c.args.message.now c.requires.count
    (record { in_range = c.requires.in_range; for_wire = c.requires.rides; spelled = c.in_ok-bytes.ensures })
    )
