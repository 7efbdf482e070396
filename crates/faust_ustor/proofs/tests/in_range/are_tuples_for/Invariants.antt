use Rattle.std.proofs.Common.{ℕ, ◌<◌, [], get_or}
use Rattle.faust_types.specs.Ranges.{IsTupleFor}
use Rattle.faust_types.specs.declared.message.Tuple.{Tuple}
use Rattle.faust_types.specs.declared.operation.Kind.TheVariants.{Write}
use Rattle.faust_ustor.proofs.tests.in_range.are_tuples_for.Given as goal

abbrev pub invariant-loop-tuple : goal.invariant-loop-tuple
invariant-loop-tuple l =
    let blank : Tuple = record { client = 0; kind = Write; register = 0; tag = [] } in
    (i : ℕ) → i < l.tuple-index → IsTupleFor l.n (get_or l.tuples i blank)
