-- The causes that a cell gives are due, but for want of memory.
use Rattle.std.proofs.Common.{◌≡◌, ℕ, ◌⊎◌, false, List, Some, None, Result, Err, sym, ap, ◌∙◌, inl, inr}
use Rattle.faust_types.specs.declared.arrival.Closing.{Closing}
use Rattle.faust_types.specs.declared.arrival.Closing.TheVariants as closings
use Rattle.faust_host.specs.declared.request.Request.{Request}
use Rattle.faust_host.specs.Requests.{Deed, deed, request_in}
use Rattle.faust_host.specs.Cells.{Cell, deed_or_turn, due, is_full}
use Rattle.faust_host.proofs.Handling.{due_malformed, due_turn}

abbrev failed : Closing → Result Deed Closing
failed closing = Err closing

pub refuses_bytes : (cell : Cell) (n i : ℕ) (bytes : List ℕ) (closing : Closing) → n ≡ cell.clients
    → (closing ≡ closings.Memory) ⊎ ((closing ≡ closings.Malformed) × (request_in n bytes ≡ None))
    → (closing ≡ closings.Memory) ⊎ (due cell i bytes ≡ Err closing)
refuses_bytes cell n i bytes closing of_n (inl e) = inl e
refuses_bytes cell n i bytes closing of_n (inr none) =
    inr (due_malformed cell n i bytes of_n none.1 ∙ ap failed (sym none.0))

pub refuses_request : (cell : Cell) (n i : ℕ) (bytes : List ℕ) (request : Request) (closing : Closing) → n ≡ cell.clients
    → request_in n bytes ≡ Some request → is_full i cell.arrivals ≡ false
    → (closing ≡ closings.Memory) ⊎ (deed_or_turn (deed cell.server i request) ≡ Err closing)
    → (closing ≡ closings.Memory) ⊎ (due cell i bytes ≡ Err closing)
refuses_request cell n i bytes request closing of_n asks room (inl e) = inl e
refuses_request cell n i bytes request closing of_n asks room (inr due_so) =
    inr (due_turn cell n i bytes request closing of_n asks room due_so)
