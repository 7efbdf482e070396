use Rattle.std.proofs.Common.{◌≡◌, map, take}
use Rattle.faust_audit.specs.Audited.{pair_told}
use Rattle.faust_audit.proofs.listing.all_told.Given as goal

abbrev pub invariant-loop-pair : goal.invariant-loop-pair
invariant-loop-pair l = record {
  items : l.pair-items ≡ l.pairs;
  done : l.out ≡ map (pair_told l.key) (take l.pair-index l.pairs);
}
