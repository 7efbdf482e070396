-- What the answer of a cell tells of the bytes that it was given.
use Rattle.std.proofs.Common.{◌≡◌, ℕ, Bool, true, false, List, Option, Some, None, Result, Ok, Err, IsSome, IsNone, if◌then◌else◌, refl, sym, subst, inl, inr}
use Rattle.faust_types.specs.declared.arrival.Closing.{Closing}
use Rattle.faust_types.specs.declared.arrival.Closing.TheVariants as closings
use Rattle.faust_server.specs.declared.refusal.OutOfTurn.{OutOfTurn}
use Rattle.faust_host.specs.declared.request.Request.{Request}
use Rattle.faust_host.specs.Requests.{Deed, deed, request_in}
use Rattle.faust_host.specs.Connections.{IsRequest}
use Rattle.faust_host.specs.Cells.{Cell, Handles, Refuses, deed_or_turn, due_to, is_full}
use Rattle.faust_host.specs.Rounds.{TellsOf}

-- bytes that ask something are a request
asks : (n : ℕ) (bytes : List ℕ) (request : Request) → request_in n bytes ≡ Some request → IsRequest n bytes
asks n bytes request is = subst IsSome (sym is) refl

asks_nothing : (n : ℕ) (bytes : List ℕ) → request_in n bytes ≡ None → IsNone (request_in n bytes)
asks_nothing n bytes is = subst IsNone (sym is) refl

ok_is_no_err : (result : Result Deed Closing) (done : Deed) (closing : Closing) → result ≡ Ok done → result ≡ Err closing → ⊥
ok_is_no_err result done closing is_ok is_err = cc

turn_tells : (n : ℕ) (bytes : List ℕ) (request : Request) (closing : Closing) (result : Result Deed OutOfTurn)
    → request_in n bytes ≡ Some request → deed_or_turn result ≡ Err closing → TellsOf n bytes (Err closing)
turn_tells n bytes request closing (Ok done) is due = absurd (ok_is_no_err (deed_or_turn (Ok done)) done closing refl due)
turn_tells n bytes request closing (Err refused) is due =
    let e : closings.Turn refused.expected refused.got ≡ closing = cc in
    subst (λ (c : Closing). TellsOf n bytes (Err c)) e (asks n bytes request is)

full_tells : (n i : ℕ) (bytes : List ℕ) (cell : Cell) (request : Request) (closing : Closing) (full : Bool)
    → request_in n bytes ≡ Some request
    → (if full then Err closings.Full else deed_or_turn (deed cell.server i request)) ≡ Err closing
    → TellsOf n bytes (Err closing)
full_tells n i bytes cell request closing true is due =
    let e : closings.Full ≡ closing = cc in
    subst (λ (c : Closing). TellsOf n bytes (Err c)) e (asks n bytes request is)
full_tells n i bytes cell request closing false is due = turn_tells n bytes request closing (deed cell.server i request) is due

due_tells : (n i : ℕ) (bytes : List ℕ) (cell : Cell) (closing : Closing) (asked : Option Request) → request_in n bytes ≡ asked
    → due_to cell i asked ≡ Err closing → TellsOf n bytes (Err closing)
due_tells n i bytes cell closing None is due =
    let e : closings.Malformed ≡ closing = cc in
    subst (λ (c : Closing). TellsOf n bytes (Err c)) e (asks_nothing n bytes is)
due_tells n i bytes cell closing (Some request) is due =
    full_tells n i bytes cell request closing (is_full i cell.arrivals) is due

done_tells : (n i : ℕ) (bytes : List ℕ) (cell : Cell) (done : Deed) (asked : Option Request) → request_in n bytes ≡ asked
    → due_to cell i asked ≡ Ok done → IsRequest n bytes
done_tells n i bytes cell done None is due = absurd (ok_is_no_err (due_to cell i None) done closings.Malformed due refl)
done_tells n i bytes cell done (Some request) is due = asks n bytes request is

refused_tells : (n i : ℕ) (bytes : List ℕ) (old new : Cell) (closing : Closing) → old.clients ≡ n → Refuses old new i bytes closing
    → TellsOf n bytes (Err closing)
refused_tells n i bytes old new closing of_n refused = elim refused.cause [
  | inl e ↦ subst (λ (c : Closing). TellsOf n bytes (Err c)) (sym e) tt
  | inr due ↦ due_tells n i bytes old closing (request_in n bytes) refl
      (subst (λ k. due_to old i (request_in k bytes) ≡ Err closing) of_n due)
]

pub handles_tell : (n i : ℕ) (bytes : List ℕ) (old new : Cell) (result : Result (Option (List ℕ)) Closing) → old.clients ≡ n
    → Handles result old new i bytes → TellsOf n bytes result
handles_tell n i bytes old new (Ok reply) of_n accepted =
    done_tells n i bytes old (record { state = new.server; reply = reply }) (request_in n bytes) refl
    (subst (λ k. due_to old i (request_in k bytes) ≡ Ok (record { state = new.server; reply = reply })) of_n accepted.done)
handles_tell n i bytes old new (Err closing) of_n refused = refused_tells n i bytes old new closing of_n refused
