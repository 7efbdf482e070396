-- How a root and a seat stand on the counter's table. It helps the proofs: each value of the two types keeps it.
use Rattle.std.specs.Prelude.{◌≡◌, []}
use Rattle.atomic_table.specs.declared.shared.Seat.{Seat}
use Rattle.atomic_table.specs.Seated.{TableId}
use Rattle.faust_ticket.specs.Holders.{RootView, SeatView, first_root, first_seat}
use Rattle.faust_ticket.specs.Rule.{Holder, root, seat, spent}

-- the name that stands in until a call names its counter
abbrev pub no_counter : TableId
no_counter = record { words = 1; slots = 0; views_name = 0; atom = 0; block = 0; offset = 0; slot_names = [] }

-- the root or the seat that a holder is; a first one in place of none
abbrev pub root_in : Holder → RootView
root_in (root r) = r
root_in (seat _) = first_root
root_in spent = first_root

abbrev pub seat_in : Holder → SeatView
seat_in (root _) = first_seat
seat_in (seat s) = s
seat_in spent = first_seat

-- table and token are of the counter, which has one word, and the token's holder is h
pub record IsOf (counter table : TableId) (token : Seat (Unit {0}) Holder) (h : Holder) : Type 0 where
  pub one_word : counter.words ≡ 1
  pub table_named : table ≡ counter
  pub token_named : token.table_id ≡ counter
  pub holder : token.me ≡ (h, [])
