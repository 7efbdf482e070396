use Rattle.std.proofs.Common.{◌≡◌, ◌-◌, []}
use Rattle.faust_wire.specs.Reading.{next_items, next_tuple}
use Rattle.faust_wire.proofs.pieces.next_tuples.Given as goal

abbrev pub invariant-loop : goal.invariant-loop
invariant-loop l = next_items (next_tuple l.n) (l.count - l.counter) l.tuples l.rest ≡ next_items (next_tuple l.n) l.count [] l.bytes
