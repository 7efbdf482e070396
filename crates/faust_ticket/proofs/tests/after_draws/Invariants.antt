use Rattle.std.proofs.Common.{◌≡◌, ◌+◌, length}
use Rattle.faust_ticket.proofs.tests.after_draws.Given as goal

abbrev pub invariant-loop-i : goal.invariant-loop-i
invariant-loop-i g l = (l.seat.spare + l._i ≡ l.initial.seat.spare) × (length l.seat.drawn ≡ length l.initial.seat.drawn + l._i)
