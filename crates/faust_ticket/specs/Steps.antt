-- The four kinds of atomic step, as they change the holders. It helps the proofs: what a caller learns of a step stands in the
-- calls' clauses.
--
--   step     on the word           what changes
--   draw     one fetch_add of 1    the seat's list gets the old word at its end, and its spare numbers fall by one
--   split    a load                the root's spare numbers fall by 2^32, its seats out grow by one, and there is a first seat
--   join     a load                the root takes the seat's list and spare numbers, its seats out fall by one, and the seat is spent
--   finish   a load                nothing; where no seat is out, the root's list holds each number below the word exactly once
use Rattle.std.specs.Prelude.{◌≡◌, ℕ, ◌^◌, ◌<◌, All}
use Rattle.faust_ticket.specs.Numbers.{HoldsEachBelow}
use Rattle.faust_ticket.specs.Holders.{SeatView, first_seat, after_draw, after_split, after_join}
use Rattle.faust_ticket.specs.Rule.{Holder, root, seat, spent}

-- what a draw that found x tells: x is above all that the seat drew and below 2^40, and the seat has it now
pub record Drew (s : SeatView) (x : ℕ) (after : Holder) : Type 0 where
  pub rising : All (λ y. y < x) s.drawn
  pub below : x < 2 ^ 40
  pub taken : after ≡ seat (after_draw s x)

abbrev pub drew : Holder → ℕ → Holder → Type 0
drew (seat s) x after = Drew s x after
drew (root _) x after = Unit {0}
drew spent x after = Unit {0}

-- what the last load tells, where it found m
abbrev pub finished : Holder → ℕ → Type 0
finished (root r) m = r.out ≡ 0 → HoldsEachBelow m r.drawn
finished (seat _) m = Unit {0}
finished spent m = Unit {0}

-- the root that is left where a seat is split off, and the seat
abbrev pub root_left : Holder → Holder
root_left (root r) = root (after_split r)
root_left (seat s) = seat s
root_left spent = spent

abbrev pub seat_given : Holder → Holder
seat_given _ = seat first_seat

-- the root that took a seat back
abbrev pub root_joined : Holder → Holder → Holder
root_joined (root r) (seat s) = root (after_join r s)
root_joined h _ = h
