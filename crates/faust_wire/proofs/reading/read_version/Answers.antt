use Rattle.std.proofs.Common.{arith}
use Rattle.faust_wire.proofs.Messages.{version_found, version_only, given_found, given_only}
use Rattle.faust_wire.proofs.reading.read_version.Goals as goal

pub returns-clause-found : goal.returns-clause-found
returns-clause-found c =
    let bytes = c.args.bytes.now in
    given_found c.whole_version.result _ _
    (λ x. version_found c.args.n bytes x c.requires (λ i. omega (arith, c.type_inv.bytes i)))
    c.whole_version.ensures

pub returns-clause-only : goal.returns-clause-only
returns-clause-only c = λ x spells.
    given_only c.whole_version.result _ x (version_only c.args.n c.args.bytes.now x c.requires spells) c.whole_version.ensures
