-- One more arrival: the replay goes on with it, and a log keeps what it keeps.
use Rattle.std.proofs.Common.{◌≡◌, ℕ, ◌+◌, ◌-◌, ◌*◌, ◌<◌, ◌≤◌, List, [], ◌∷◌, ◌++◌, length, slice_index, slice_set, Option, Some, Ok, false, refl, sym, ap, ◌∙◌, subst, inl, inr, arith, length-append}
use Rattle.std.proofs.lemmas.List.{map-append, get_or-set_other, length-set}
use Rattle.std.proofs.lemmas.Grind.{get_or-set_at}
use Rattle.std.proofs.lemmas.Bool.{cases_eq, leb-false}
use Rattle.std.specs.List.{AllByRecursion}
use Rattle.faust_types.specs.Clients.{IsClient, IsClientCount}
use Rattle.faust_types.specs.declared.arrival.Arrival.{Arrival}
use Rattle.faust_ticket.specs.Holders.{SeatView, after_draw}
use Rattle.faust_server.specs.Rows.{State, first_state}
use Rattle.faust_host.specs.declared.request.Request.{Request}
use Rattle.faust_host.specs.Requests.{Deed, deed, request_in}
use Rattle.faust_host.specs.Arriving.{AreNumbered, after_arrival, arrivals_of, replay, replayed, state_after, state_of}
use Rattle.faust_host.specs.Cells.{is_full}
use Rattle.faust_host.specs.Logs.{Log, IsCounted}
use Rattle.faust_host.proofs.Counting.{arrivals_of-push_own, arrivals_of-push_other, length-bound}

replayed-snoc : (n : ℕ) (st : Option State) (xs : List Arrival) (a : Arrival)
    → replayed n st (xs ++ a ∷ []) ≡ after_arrival n (replayed n st xs) a
replayed-snoc n st [] a = refl
replayed-snoc n st (x ∷ xs) a = replayed-snoc n (after_arrival n st x) xs a

-- an arrival whose request is done brings the replay to the state after it
pub replay-done : (n : ℕ) (xs : List Arrival) (a : Arrival) (st : State) (request : Request) (done : Deed)
    → replay n xs ≡ Some st → request_in n a.message ≡ Some request → deed st a.client request ≡ Ok done
    → replay n (xs ++ a ∷ []) ≡ Some done.state
unfolding replay
replay-done n xs a st request done so_far asks does =
    replayed-snoc n (Some (first_state n)) xs a
    ∙ ap (λ (now : Option State). after_arrival n now a) so_far
    ∙ ap (state_after st a.client) asks
    ∙ ap state_of does

pub all_snoc : {X : Type 0} (P : X → Type 0) (xs : List X) (x : X) → AllByRecursion P xs → P x → AllByRecursion P (xs ++ x ∷ [])
all_snoc P [] x each holds = (holds, tt)
all_snoc P (y ∷ ys) x each holds = (each.0, all_snoc P ys x each.1 holds)

-- a seat that has numbers of all arrivals has a spare one
pub has_spare : (n : ℕ) (xs : List Arrival) (seat : SeatView) → IsClientCount n → AreNumbered n xs seat → 0 < seat.spare
has_spare n xs seat count kept =
    let few = kept.bounded in
    let all = kept.spare in
    let most = count.at_most_32 in
    let product : n * 200000 ≤ 32 * 200000 = omega (arith, most) in
    omega (arith, few, all, product)

few_after : (n i : ℕ) (xs : List Arrival) (a : Arrival) → a.client ≡ i → arrivals_of i xs < 200000
    → ((k : ℕ) → IsClient n k → arrivals_of k xs ≤ 200000) → (k : ℕ) → IsClient n k → arrivals_of k (xs ++ a ∷ []) ≤ 200000
few_after n i xs a of_i room few k in_range = elim (cases_eq i k) [
  | inl e ↦ let grown = arrivals_of-push_own k xs a (of_i ∙ e) in let full = subst (λ j. arrivals_of j xs < 200000) e room in
      omega (arith, grown, full)
  | inr ne ↦ let same = arrivals_of-push_other k xs a (λ is. ne (sym of_i ∙ is)) in let before = few k in_range in
      omega (arith, same, before)
]

-- a numbered list stays one where an arrival of a client with room gets the number that the seat draws
pub numbered-push : (n i : ℕ) (bytes : List ℕ) (number : ℕ) (xs : List Arrival) (seat : SeatView) → IsClientCount n → IsClient n i
    → AreNumbered n xs seat → arrivals_of i xs < 200000
    → AreNumbered n (xs ++ record { number = number; client = i; message = bytes } ∷ []) (after_draw seat number)
numbered-push n i bytes number xs seat count in_range kept room =
    let a : Arrival = record { number = number; client = i; message = bytes } in
    let each = all_snoc (λ (x : Arrival). IsClient n x.client) xs a kept.in_range in_range in
    let few = few_after n i xs a refl room kept.few in
    let long : length (xs ++ a ∷ []) ≡ length xs + 1 = length-append xs (a ∷ []) in
    let some = has_spare n xs seat count kept in
    let all = kept.spare in
    record {
      numbers = map-append (λ (x : Arrival). x.number) xs (a ∷ []) ∙ ap (λ list. list ++ number ∷ []) kept.numbers;
      spare = omega (arith, long, some, all);
      in_range = each;
      few = few;
      bounded = length-bound n 200000 (xs ++ a ∷ []) each few;
    }

-- each client's count goes with its arrivals
pub counted-push : (n i : ℕ) (bytes : List ℕ) (number : ℕ) (counts : List ℕ) (xs : List Arrival) → IsClient n i → length counts ≡ n
    → ((k : ℕ) → IsClient n k → slice_index counts (k - 1) ≡ arrivals_of k xs) → (k : ℕ) → IsClient n k
    → slice_index (slice_set counts (i - 1) (slice_index counts (i - 1) + 1)) (k - 1)
    ≡ arrivals_of k (xs ++ record { number = number; client = i; message = bytes } ∷ [])
counted-push n i bytes number counts xs of_i sized counted k of_k =
    let a : Arrival = record { number = number; client = i; message = bytes } in
    let here = of_i.from_one in
    let there = of_k.from_one in
    let within = of_i.to_n in
    elim (cases_eq i k) [
      | inl e ↦
          let grown = arrivals_of-push_own k xs a e in
          let before = counted k of_k in
          let same = ap (λ j. slice_index counts (j - 1)) e in
          let put = get_or-set_at counts (i - 1) (k - 1) (slice_index counts (i - 1) + 1) 0 (ap (λ j. j - 1) (sym e))
          (omega (arith, within, here, sized)) in
          omega (arith, grown, before, same, put)
      | inr ne ↦
          let kept = arrivals_of-push_other k xs a ne in
          let before = counted k of_k in
          let other = get_or-set_other counts (i - 1) (k - 1) (slice_index counts (i - 1) + 1) 0
          (λ e. ne (omega (arith, e, here, there))) in
          omega (arith, kept, before, other)
    ]

-- a log stays one after an arrival of a client that isn't full
abbrev seen : List ℕ → List Arrival → SeatView → Log
seen counts xs seat = record { clients = length counts; arrivals = xs; seat = seat }

push_counted : (counts : List ℕ) (xs : List Arrival) (seat : SeatView) (i number : ℕ) (bytes : List ℕ)
    → IsCounted counts (seen counts xs seat) → IsClient (length counts) i → is_full i xs ≡ false
    → IsCounted
    (slice_set counts (i - 1) (slice_index counts (i - 1) + 1))
    (record {
      clients = length counts;
      arrivals = xs ++ record { number = number; client = i; message = bytes } ∷ [];
      seat = after_draw seat number;
    })
push_counted counts xs seat i number bytes is of_i room = record {
  clients_count = is.clients_count;
  numbered = numbered-push (length counts) i bytes number xs seat is.clients_count of_i is.numbered
      (leb-false 200000 (arrivals_of i xs) room);
  counted = counted-push (length counts) i bytes number counts xs of_i refl is.counted;
}

pub counted_after : (counts after : List ℕ) (xs all : List Arrival) (seat drawn : SeatView) (now : Log) (i number : ℕ) (bytes : List ℕ)
    → seen counts xs seat ≡ now → IsCounted counts (seen counts xs seat) → IsClient now.clients i → is_full i now.arrivals ≡ false
    → after ≡ slice_set counts (i - 1) (slice_index counts (i - 1) + 1)
    → all ≡ xs ++ record { number = number; client = i; message = bytes } ∷ [] → drawn ≡ after_draw seat number
    → IsCounted after (seen after all drawn)
counted_after counts after xs all seat drawn now i number bytes view is of_i room counts_is all_is drawn_is =
    let of_i' : IsClient (length counts) i = subst (λ (log : Log). IsClient log.clients i) (sym view) of_i in
    let room' : is_full i xs ≡ false = subst (λ (log : Log). is_full i log.arrivals ≡ false) (sym view) room in
    let pushed = push_counted counts xs seat i number bytes is of_i' room' in
    let sized : length after ≡ length counts =
    ap length counts_is ∙ length-set counts (i - 1) (slice_index counts (i - 1) + 1) in
    rw (sized, counts_is, all_is, drawn_is) pushed
