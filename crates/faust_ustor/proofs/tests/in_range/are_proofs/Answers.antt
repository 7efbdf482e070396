use Rattle.std.proofs.Common.{ℕ, List, Option, None, IfSome, arith}
use Rattle.faust_types.specs.Ranges.{IsDigest}
use Rattle.faust_ustor.proofs.Elements.{all-from}
use Rattle.faust_ustor.proofs.tests.in_range.are_proofs.Goals as goal

pub returns : goal.returns
returns c _ = all-from (λ (proof : Option (List ℕ)). IfSome proof IsDigest) c.args.proofs.now None
    (λ i lt. c.loop-proof.invariant i (omega (arith, lt, c.loop-proof-test.false)))
