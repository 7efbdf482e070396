-- The counter's rule, which holds between any two atomic steps. The promise rests on it.
-- The counter's word is the next number. Beside it stand the holders: the root, the seats that are out, and for each seat that came
-- back a spent holder, which has nothing.
use Rattle.std.specs.Prelude.{◌≡◌, ℕ, ◌+◌, ◌^◌, ◌≤◌, List, [], ◌∷◌}
use Rattle.atomic_table.specs.Table.{State}
use Rattle.faust_ticket.specs.Numbers.{times, once_below}
use Rattle.faust_ticket.specs.Holders.{RootView, SeatView}

-- who may hold numbers
pub data Holder : Type 0 where
  root : RootView → Holder
  seat : SeatView → Holder
  spent : Holder

-- the numbers of a holder, how many more it may draw or give away, and how many seats it counts
abbrev pub drawn_by : Holder → List ℕ
drawn_by (root r) = r.drawn
drawn_by (seat s) = s.drawn
drawn_by spent = []

abbrev pub spare_of : Holder → ℕ
spare_of (root r) = r.spare
spare_of (seat s) = s.spare
spare_of spent = 0

abbrev pub out_of : Holder → ℕ
out_of (root r) = r.out
out_of (seat _) = 0
out_of spent = 0

-- 1 for the root, and 1 for a seat that is out
abbrev pub is_root : Holder → ℕ
is_root (root _) = 1
is_root (seat _) = 0
is_root spent = 0

abbrev pub is_seat : Holder → ℕ
is_seat (root _) = 0
is_seat (seat _) = 1
is_seat spent = 0

-- the sum of f over all holders
abbrev pub total : (Holder → ℕ) → List Holder → ℕ
total f [] = 0
total f (h ∷ hs) = f h + total f hs

-- what holds where the next number is w and these are the holders
pub record IsCounted (w : ℕ) (holders : List Holder) : Type 0 where
  -- over all lists together a number stands once if it is below w, and else not at all: none stands twice, and none is left out
  pub each_once : (x : ℕ) → total (λ h. times x (drawn_by h)) holders ≡ once_below w x
  -- each spare number can still be drawn below 2^40
  pub room : w + total spare_of holders ≤ 2 ^ 40
  -- there is one root, and it counts the seats
  pub one_root : total is_root holders ≡ 1
  pub seats_out : total is_seat holders ≡ total out_of holders

-- the counter has one word, and word and holders are as above
pub record IsCounter (s : State (Unit {0}) Holder) : Type 0 where
  pub next : ℕ
  pub one_word : s.words ≡ next ∷ []
  pub counted : IsCounted next s.views
