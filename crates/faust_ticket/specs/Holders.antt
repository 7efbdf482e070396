-- Who holds numbers of a counter, as contracts see them, and how each call changes them. The promise rests on it.
use Rattle.std.specs.Prelude.{ℕ, ◌+◌, ◌-◌, ◌^◌, List, [], ◌∷◌, ◌++◌}

-- a seat: the numbers that it drew, in order, and how many more it may draw
pub record SeatView : Type 0 where
  pub drawn : List ℕ
  pub spare : ℕ

-- the root: the numbers of the seats that came back, how many it may still give away, and how many seats are out
pub record RootView : Type 0 where
  pub drawn : List ℕ
  pub spare : ℕ
  pub out : ℕ

-- the root of a new counter
abbrev pub first_root : RootView
first_root = record { drawn = []; spare = 2 ^ 40; out = 0 }

-- a seat as it is split off
abbrev pub first_seat : SeatView
first_seat = record { drawn = []; spare = 2 ^ 32 }

-- the seat after it drew x
abbrev pub after_draw : SeatView → ℕ → SeatView
after_draw s x = record { drawn = s.drawn ++ x ∷ []; spare = s.spare - 1 }

-- the root after a seat was split off
abbrev pub after_split : RootView → RootView
after_split r = record { drawn = r.drawn; spare = r.spare - 2 ^ 32; out = r.out + 1 }

-- the root after it took a seat back; that seat was out, so the root counted at least one
abbrev pub after_join : RootView → SeatView → RootView
after_join r s = record { drawn = r.drawn ++ s.drawn; spare = r.spare + s.spare; out = r.out - 1 }
