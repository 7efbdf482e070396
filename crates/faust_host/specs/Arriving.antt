-- The arrivals of a host: the server is their replay, and their numbers are those that its seat drew. What a host hands
-- out rests on this file.
use Rattle.std.specs.Prelude.{◌≡◌, ℕ, ◌+◌, ◌*◌, ◌==◌, ◌^◌, ◌≤◌, cond, List, [], ◌∷◌, Option, Some, None, Result, Ok, Err, length, map}
use Rattle.std.specs.List.{AllByRecursion}
use Rattle.faust_types.specs.Clients.{IsClient}
use Rattle.faust_types.specs.declared.arrival.Arrival.{Arrival}
use Rattle.faust_ticket.specs.Holders.{SeatView}
use Rattle.faust_server.specs.Rows.{State, first_state}
use Rattle.faust_server.specs.declared.refusal.OutOfTurn.{OutOfTurn}
use Rattle.faust_host.specs.Requests.{Deed, deed, request_in}
use Rattle.faust_host.specs.declared.request.Request.{Request}

-- The server after one more arrival: none where it was refused, or its message asks nothing.
abbrev pub state_of : Result Deed OutOfTurn → Option State
state_of (Ok done) = Some done.state
state_of (Err refused) = None

abbrev pub state_after : State → ℕ → Option Request → Option State
state_after st i None = None
state_after st i (Some request) = state_of (deed st i request)

abbrev pub after_arrival : ℕ → Option State → Arrival → Option State
after_arrival n None arrival = None
after_arrival n (Some st) arrival = state_after st arrival.client (request_in n arrival.message)

-- The server of n clients after these arrivals, one after the other, from its first state on.
abbrev pub replayed : ℕ → Option State → List Arrival → Option State
replayed n st [] = st
replayed n st (arrival ∷ rest) = replayed n (after_arrival n st arrival) rest

unfoldable pub replay : ℕ → List Arrival → Option State
replay n arrivals = replayed n (Some (first_state n)) arrivals

-- How many arrivals are of client i.
abbrev pub arrivals_of : ℕ → List Arrival → ℕ
arrivals_of i [] = 0
arrivals_of i (arrival ∷ rest) = cond (arrival.client == i) 1 0 + arrivals_of i rest

abbrev pub numbers_of : List Arrival → List ℕ
numbers_of arrivals = map (λ (arrival : Arrival). arrival.number) arrivals

-- The arrivals of n clients have the numbers that the seat drew, in this order, and each client has at most 200,000 of
-- them. What the seat drew and what it may still draw is 2^32 together.
pub record AreNumbered (n : ℕ) (arrivals : List Arrival) (seat : SeatView) : Type 0 where
  pub numbers : numbers_of arrivals ≡ seat.drawn
  pub spare : length arrivals + seat.spare ≡ 2 ^ 32
  pub in_range : AllByRecursion (λ (arrival : Arrival). IsClient n arrival.client) arrivals
  pub few : (i : ℕ) → IsClient n i → arrivals_of i arrivals ≤ 200000
  pub bounded : length arrivals ≤ n * 200000

-- The same, and the server accepted each of them in its turn, so that it came to this state.
pub record AreServed (n : ℕ) (arrivals : List Arrival) (seat : SeatView) : Type 0 where
  pub state : State
  pub accepted : replay n arrivals ≡ Some state
  pub numbered : AreNumbered n arrivals seat
