use Rattle.std.proofs.Common.{◌≡◌, ◌++◌, ℕ, List}
use Rattle.faust_audit.specs.Tables.{HoldsBodies}
use Rattle.faust_audit.proofs.body_set.BodySet.add_all.Given as goal

abbrev pub invariant-loop-body : goal.invariant-loop-body
invariant-loop-body l = record {
  rest : l.yielded ++ l.body-iterator.rest.items ≡ l.fn.bodies;
  holds : (made : List (List ℕ)) → HoldsBodies l.fn.self made → HoldsBodies l.self (made ++ l.yielded);
}
