use Rattle.std.proofs.Common.{arith}
use Rattle.faust_wire.proofs.Messages.{message_found, message_only, given_found, given_only}
use Rattle.faust_wire.proofs.reading.decode.Goals as goal

pub returns-clause-found : goal.returns-clause-found
returns-clause-found c =
    let bytes = c.args.bytes.now in
    given_found c.whole_message.result _ _
    (λ x. message_found c.args.wire c.args.n bytes x c.requires.count (λ i. omega (arith, c.type_inv.bytes i)))
    c.whole_message.ensures

pub returns-clause-only : goal.returns-clause-only
returns-clause-only c = λ x spells.
    given_only c.whole_message.result _ x
    (message_only c.args.wire c.args.n c.args.bytes.now x c.requires.count spells)
    c.whole_message.ensures
