-- The value behind a host's lock, and what each of its calls does to it. The clauses of `HostCell` rest on this file.
use Rattle.std.specs.Prelude.{◌≡◌, ℕ, ◌-◌, ◌⊎◌, Bool, true, false, if◌then◌else◌, nat_le, List, [], ◌∷◌, ◌++◌, Option, Some, None, Result, Ok, Err, length, replicate, slice_index_or, slice_set}
use Rattle.faust_types.specs.Clients.{IsClientCount}
use Rattle.faust_types.specs.declared.arrival.Arrival.{Arrival}
use Rattle.faust_types.specs.declared.arrival.Closing.{Closing}
use Rattle.faust_types.specs.declared.arrival.Closing.TheVariants as closings
use Rattle.faust_ticket.specs.Holders.{SeatView, after_draw}
use Rattle.faust_server.specs.Rows.{State, first_state, client_count}
use Rattle.faust_server.specs.declared.refusal.OutOfTurn.{OutOfTurn}
use Rattle.faust_host.specs.Requests.{Deed, deed, request_in}
use Rattle.faust_host.specs.Arriving.{AreNumbered, arrivals_of, replay}
use Rattle.faust_host.specs.declared.request.Request.{Request}

-- For how many clients it is, which of them were named, the server, what arrived, and the seat.
pub record Cell : Type 0 where
  pub clients : ℕ
  pub named : List Bool
  pub server : State
  pub arrivals : List Arrival
  pub seat : SeatView

abbrev pub first_cell : ℕ → SeatView → Cell
first_cell n seat = record { clients = n; named = replicate n false; server = first_state n; arrivals = []; seat = seat }

-- What every cell keeps: its server is the replay of its arrivals, and these have the numbers of its seat.
pub record IsCell (cell : Cell) : Type 0 where
  pub count : IsClientCount cell.clients
  pub names_paired : length cell.named ≡ cell.clients
  pub server_paired : client_count cell.server ≡ cell.clients
  pub accepted : replay cell.clients cell.arrivals ≡ Some cell.server
  pub numbered : AreNumbered cell.clients cell.arrivals cell.seat

-- Naming a client: it is named from then on, unless it was named before.
abbrev pub is_named : Cell → ℕ → Bool
is_named cell i = slice_index_or cell.named (i - 1) false

abbrev pub naming : Cell → ℕ → Cell
naming cell i = record cell { named = slice_set cell.named (i - 1) true }

abbrev pub Names : Result (Unit {0}) Closing → Cell → Cell → ℕ → Type 0
Names (Ok x) old new i = (is_named old i ≡ false) × (new ≡ naming old i)
Names (Err closing) old new i = (is_named old i ≡ true) × (closing ≡ closings.Named i) × (new ≡ old)

-- What is due to a request of client i, in this order: refused as no request, as one too many, or out of turn; or done.
abbrev pub is_full : ℕ → List Arrival → Bool
is_full i arrivals = nat_le 200000 (arrivals_of i arrivals)

abbrev pub deed_or_turn : Result Deed OutOfTurn → Result Deed Closing
deed_or_turn (Ok done) = Ok done
deed_or_turn (Err refused) = Err (closings.Turn refused.expected refused.got)

abbrev pub due_to : Cell → ℕ → Option Request → Result Deed Closing
due_to cell i None = Err closings.Malformed
due_to cell i (Some request) =
    if is_full i cell.arrivals then Err closings.Full else deed_or_turn (deed cell.server i request)

abbrev pub due : Cell → ℕ → List ℕ → Result Deed Closing
due cell i bytes = due_to cell i (request_in cell.clients bytes)

-- The cell after one event: a number was drawn, and the message stands behind the earlier arrivals with this number.
abbrev pub arrived : Cell → ℕ → List ℕ → ℕ → State → Cell
arrived cell i bytes number state = record cell {
  server = state;
  arrivals = cell.arrivals ++ record { number = number; client = i; message = bytes } ∷ [];
  seat = after_draw cell.seat number;
}

-- An answer to bytes of client i is what is due. Only want of memory is free. After a refusal all is as before, so no
-- number was drawn.
pub record Accepts (old new : Cell) (i : ℕ) (bytes : List ℕ) (reply : Option (List ℕ)) : Type 0 where
  pub number : ℕ
  pub done : due old i bytes ≡ Ok (record { state = new.server; reply = reply })
  pub event : new ≡ arrived old i bytes number new.server

pub record Refuses (old new : Cell) (i : ℕ) (bytes : List ℕ) (closing : Closing) : Type 0 where
  pub cause : (closing ≡ closings.Memory) ⊎ (due old i bytes ≡ Err closing)
  pub same : new ≡ old

abbrev pub Handles : Result (Option (List ℕ)) Closing → Cell → Cell → ℕ → List ℕ → Type 0
Handles (Ok reply) old new i bytes = Accepts old new i bytes reply
Handles (Err closing) old new i bytes = Refuses old new i bytes closing
