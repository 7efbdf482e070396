use Rattle.std.proofs.Common.{◌≡◌, ◌∷◌, ◌++◌, take, flat_map}
use Rattle.std.specs.Fmt.{decimal}
use Rattle.faust_report.proofs.pieces.put_clients.Given as goal

abbrev pub invariant-loop-client : goal.invariant-loop-client
invariant-loop-client l = l.out ≡ l.initial.out ++ flat_map (λ x. 32 ∷ decimal x) (take l.client-index l.clients)
