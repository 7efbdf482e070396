use Rattle.std.proofs.Common.{◌≡◌, ◌-◌, []}
use Rattle.faust_wire.specs.Reading.{next_items, next_optional}
use Rattle.faust_wire.proofs.pieces.next_proofs.Given as goal

abbrev pub invariant-loop : goal.invariant-loop
invariant-loop l = next_items next_optional (l.n - l.counter) l.proofs l.rest ≡ next_items next_optional l.n [] l.bytes
