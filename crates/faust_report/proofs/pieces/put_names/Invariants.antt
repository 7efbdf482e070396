use Rattle.std.proofs.Common.{◌≡◌, ◌∷◌, ◌++◌, take, flat_map}
use Rattle.faust_report.specs.Text.{name_text}
use Rattle.faust_report.proofs.pieces.put_names.Given as goal

abbrev pub invariant-loop-name : goal.invariant-loop-name
invariant-loop-name l = l.out ≡ l.initial.out ++ flat_map (λ name. 32 ∷ name_text name) (take l.name-index l.names)
