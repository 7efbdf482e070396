use Rattle.std.proofs.Common.{◌≡◌, ℕ, List, drop}
use Rattle.faust_audit.specs.Tables.{HoldsBodies}
use Rattle.faust_premises.specs.Premises.{forged_among}
use Rattle.faust_audit.proofs.collected.Collected.first_forged.Given as goal

abbrev pub invariant-loop-pair : goal.invariant-loop-pair
invariant-loop-pair l = record {
  items : l.pair-items ≡ l.pairs;
  rest : (made : List (List ℕ)) → HoldsBodies l.self.made made
      → forged_among l.key made (drop l.pair-index l.pairs) ≡ forged_among l.key made l.pairs;
}
