use Rattle.std.proofs.Common.{◌≡◌, ◌∷◌, ◌++◌, take, flat_map}
use Rattle.std.specs.Fmt.{decimal}
use Rattle.faust_report.proofs.pieces.put_numbers.Given as goal

abbrev pub invariant-loop-x : goal.invariant-loop-x
invariant-loop-x l = l.out ≡ l.initial.out ++ flat_map (λ x. 32 ∷ decimal x) (take l.x-index l.numbers)
