use Rattle.std.proofs.Common.{◌≡◌, ◌++◌}
use Rattle.faust_audit.proofs.breaking.all_hashed.Given as goal

abbrev pub invariant-loop-input : goal.invariant-loop-input
invariant-loop-input l = record {
  rest : l.yielded ++ l.input-iterator.rest.items ≡ l.fn.inputs;
  done : l.all ≡ l.yielded;
}
