use Rattle.std.proofs.Common.{[], arith}
use Rattle.faust_types.specs.Ranges.{IsTupleFor}
use Rattle.faust_types.specs.declared.message.Tuple.{Tuple}
use Rattle.faust_types.specs.declared.operation.Kind.TheVariants.{Write}
use Rattle.faust_ustor.proofs.Elements.{all-from}
use Rattle.faust_ustor.proofs.tests.in_range.are_tuples_for.Goals as goal

pub returns : goal.returns
returns c _ =
    let blank : Tuple = record { client = 0; kind = Write; register = 0; tag = [] } in
    all-from (IsTupleFor c.args.n) c.args.tuples.now blank (λ i lt. c.loop-tuple.invariant i (omega (arith, lt, c.loop-tuple-test.false)))
