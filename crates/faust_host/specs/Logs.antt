-- What a host's log keeps, in memory. It only helps proofs: what arrivals keep stands in `Arriving`.
use Rattle.std.specs.Prelude.{◌≡◌, ℕ, ◌-◌, List, [], ◌∷◌, ◌++◌, slice_index}
use Rattle.faust_types.specs.Clients.{IsClient, IsClientCount}
use Rattle.faust_types.specs.declared.arrival.Arrival.{Arrival}
use Rattle.faust_ticket.specs.Holders.{SeatView, after_draw}
use Rattle.faust_host.specs.Arriving.{AreNumbered, arrivals_of}

pub record Log : Type 0 where
  pub clients : ℕ
  pub arrivals : List Arrival
  pub seat : SeatView

abbrev pub first_log : ℕ → SeatView → Log
first_log n seat = record { clients = n; arrivals = []; seat = seat }

-- The log after a message of client i arrived and this number was drawn for it.
abbrev pub logged : Log → ℕ → List ℕ → ℕ → Log
logged log i bytes number = record {
  clients = log.clients;
  arrivals = log.arrivals ++ record { number = number; client = i; message = bytes } ∷ [];
  seat = after_draw log.seat number;
}

-- Each client's count is of its arrivals.
pub record IsCounted (counts : List ℕ) (log : Log) : Type 0 where
  pub clients_count : IsClientCount log.clients
  pub numbered : AreNumbered log.clients log.arrivals log.seat
  pub counted : (i : ℕ) → IsClient log.clients i → slice_index counts (i - 1) ≡ arrivals_of i log.arrivals
