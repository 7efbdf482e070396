-- What is due to bytes of a client, step by step as the cell finds it.
use Rattle.std.proofs.Common.{◌≡◌, ℕ, Bool, true, false, replicate, length, List, [], ◌∷◌, ◌++◌, Option, Some, None, Result, Ok, Err, IfSome, if◌then◌else◌, sym, ap, ◌∙◌, subst}
use Rattle.std.proofs.lemmas.List.{length-replicate}
use Rattle.faust_types.specs.Clients.{IsClientCount}
use Rattle.faust_types.specs.declared.arrival.Arrival.{Arrival}
use Rattle.faust_types.specs.declared.arrival.Closing.{Closing}
use Rattle.faust_types.specs.declared.arrival.Closing.TheVariants as closings
use Rattle.faust_server.specs.Rows.{State, client_count, first_state}
use Rattle.faust_server.specs.declared.refusal.OutOfTurn.{OutOfTurn}
use Rattle.faust_ticket.specs.Holders.{SeatView, after_draw}
use Rattle.faust_host.specs.declared.request.Request.{Request}
use Rattle.faust_host.specs.Requests.{Deed, deed, request_in}
use Rattle.faust_host.specs.Arriving.{AreNumbered, AreServed, replay, state_of}
use Rattle.faust_host.specs.Logs.{Log, first_log, logged}
use Rattle.faust_host.specs.Cells.{Cell, IsCell, arrived, deed_or_turn, due, due_to, is_full}
use Rattle.faust_host.proofs.Growing.{replay-done}

pub due_malformed : (cell : Cell) (n i : ℕ) (bytes : List ℕ) → n ≡ cell.clients → request_in n bytes ≡ None
    → due cell i bytes ≡ Err closings.Malformed
due_malformed cell n i bytes of_n asks = ap (due_to cell i) (subst (λ k. request_in k bytes ≡ None) of_n asks)

due_request : (cell : Cell) (n i : ℕ) (bytes : List ℕ) (request : Request) → n ≡ cell.clients → request_in n bytes ≡ Some request
    → due cell i bytes ≡ due_to cell i (Some request)
due_request cell n i bytes request of_n asks = ap (due_to cell i) (subst (λ k. request_in k bytes ≡ Some request) of_n asks)

pub due_full : (cell : Cell) (n i : ℕ) (bytes : List ℕ) (request : Request) → n ≡ cell.clients → request_in n bytes ≡ Some request
    → is_full i cell.arrivals ≡ true → due cell i bytes ≡ Err closings.Full
due_full cell n i bytes request of_n asks full =
    due_request cell n i bytes request of_n asks
    ∙ ap (λ is. if is then Err closings.Full else deed_or_turn (deed cell.server i request)) full

pub due_tried : (cell : Cell) (n i : ℕ) (bytes : List ℕ) (request : Request) → n ≡ cell.clients → request_in n bytes ≡ Some request
    → is_full i cell.arrivals ≡ false → due cell i bytes ≡ deed_or_turn (deed cell.server i request)
due_tried cell n i bytes request of_n asks room =
    due_request cell n i bytes request of_n asks
    ∙ ap (λ is. if is then Err closings.Full else deed_or_turn (deed cell.server i request)) room

pub due_done : (cell : Cell) (n i : ℕ) (bytes : List ℕ) (request : Request) (done : Deed) → n ≡ cell.clients
    → request_in n bytes ≡ Some request → is_full i cell.arrivals ≡ false → deed cell.server i request ≡ Ok done
    → due cell i bytes ≡ Ok done
due_done cell n i bytes request done of_n asks room does =
    due_tried cell n i bytes request of_n asks room ∙ ap deed_or_turn does

pub due_turn : (cell : Cell) (n i : ℕ) (bytes : List ℕ) (request : Request) (closing : Closing) → n ≡ cell.clients
    → request_in n bytes ≡ Some request → is_full i cell.arrivals ≡ false
    → deed_or_turn (deed cell.server i request) ≡ Err closing → due cell i bytes ≡ Err closing
due_turn cell n i bytes request closing of_n asks room refuses = due_tried cell n i bytes request of_n asks room ∙ refuses

-- a cell stays one after a request that was done
pub cell_done : (cell : Cell) (n i : ℕ) (bytes : List ℕ) (number : ℕ) (request : Request) (done : Deed) → IsCell cell → n ≡ cell.clients
    → request_in n bytes ≡ Some request → deed cell.server i request ≡ Ok done → client_count done.state ≡ client_count cell.server
    → AreNumbered cell.clients (cell.arrivals ++ record { number = number; client = i; message = bytes } ∷ []) (after_draw cell.seat number)
    → IsCell (arrived cell i bytes number done.state)
cell_done cell n i bytes number request done is of_n asks does counts numbered = record {
  count = is.count;
  names_paired = is.names_paired;
  server_paired = counts ∙ is.server_paired;
  accepted = replay-done cell.clients cell.arrivals (record { number = number; client = i; message = bytes }) cell.server request done
      is.accepted (subst (λ k. request_in k bytes ≡ Some request) of_n asks) does;
  numbered = numbered;
}

some_same : (a b : State) → Some a ≡ Some b → a ≡ b
some_same a b same = cc

-- the server that followed is the one that was tried
pub followed_same : (result : Option State) (does : Result Deed OutOfTurn) (done : Deed) → does ≡ Ok done
    → IfSome result (λ after. state_of does ≡ Some after) → IfSome result (λ after. after ≡ done.state)
followed_same None does done is follows = tt
followed_same (Some after) does done is follows =
    let e : state_of does ≡ Some done.state = ap state_of is in
    let same : Some after ≡ Some done.state = sym follows ∙ e in
    some_same after done.state same

-- what a cell hands out
pub served_parts : (inside cell : Cell) (arrivals : List Arrival) (seat : SeatView) → inside ≡ cell → IsCell inside
    → arrivals ≡ inside.arrivals → seat ≡ inside.seat → AreServed cell.clients arrivals seat
served_parts inside cell arrivals seat view is arrivals_are seat_is =
    rw (arrivals_are, seat_is, ← view) (record { state = inside.server; accepted = is.accepted; numbered = is.numbered })

-- a first cell is one
pub first_is_cell : (n : ℕ) (named : List Bool) (server : State) (log : Log) (seat : SeatView) → IsClientCount n → named ≡ replicate n false
    → server ≡ first_state n → log ≡ first_log n seat → AreNumbered log.clients log.arrivals log.seat → client_count (first_state n) ≡ n
    → IsCell (record { clients = log.clients; named = named; server = server; arrivals = log.arrivals; seat = log.seat })
unfolding replay
first_is_cell n named server log seat count named_is server_is log_is numbered counts = record {
  count = subst (λ (l : Log). IsClientCount l.clients) (sym log_is) count;
  names_paired = ap length named_is ∙ length-replicate n false ∙ sym (ap (λ (l : Log). l.clients) log_is);
  server_paired = ap client_count server_is ∙ counts ∙ sym (ap (λ (l : Log). l.clients) log_is);
  accepted = subst (λ (l : Log). replay l.clients l.arrivals ≡ Some server) (sym log_is) (ap (λ (st : State). Some st) (sym server_is));
  numbered = numbered;
}

-- the cell after a request, as its parts came
pub cell_after : (inside cell : Cell) (n i : ℕ) (bytes : List ℕ) (number : ℕ) (request : Request) (done : Deed) (server : State) (log : Log)
    → inside ≡ cell → IsCell inside → n ≡ client_count inside.server → request_in n bytes ≡ Some request
    → deed inside.server i request ≡ Ok done → client_count done.state ≡ client_count inside.server → server ≡ done.state
    → log ≡ logged (record { clients = inside.clients; arrivals = inside.arrivals; seat = inside.seat }) i bytes number
    → AreNumbered log.clients log.arrivals log.seat
    → IsCell (record { clients = log.clients; named = inside.named; server = server; arrivals = log.arrivals; seat = log.seat })
cell_after inside cell n i bytes number request done server log view is of_n asks does counts server_is log_is numbered =
    let kept : AreNumbered inside.clients (inside.arrivals ++ record { number = number; client = i; message = bytes } ∷ [])
    (after_draw inside.seat number) = subst (λ (l : Log). AreNumbered l.clients l.arrivals l.seat) log_is numbered in
    let after = cell_done inside n i bytes number request done is (of_n ∙ is.server_paired) asks does counts kept in
    rw (log_is, server_is) after
