use Rattle.std.proofs.Common.{◌≡◌, ◌++◌, ℕ, List, take}
use Rattle.faust_audit.specs.Tables.{HoldsInputs}
use Rattle.faust_audit.proofs.input_table.InputTable.add_all.Given as goal

abbrev pub invariant-loop-hashed : goal.invariant-loop-hashed
invariant-loop-hashed l = record {
  items : l.hashed-items ≡ l.inputs;
  holds : (all : List (List ℕ)) → HoldsInputs l.fn.self all → HoldsInputs l.self (all ++ take l.hashed-index l.inputs);
}
