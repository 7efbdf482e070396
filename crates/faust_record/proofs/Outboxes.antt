-- Outboxes after one more entry, and the message that is due by the places in them.
use Rattle.std.proofs.Common.{◌≡◌, ◌+◌, ◌-◌, ◌<◌, ◌≤◌, ◌==◌, ◌&&◌, ℕ, zero, suc, Bool, true, false, cond, List, [], ◌∷◌, ◌++◌, length, get_or, Option, Some, None, is_some, option_to_list, replicate, refl, sym, ap, ◌∙◌, subst, inl, inr, arith, append_assoc, length-append}
use Rattle.std.proofs.lemmas.List.{append-nil, get_or-replicate, get_or_at, length-replicate, length-set}
use Rattle.std.proofs.lemmas.Bool.{cases_eq, eq-eqb, ne_eqb}
use Rattle.std.specs.Prelude.{option_and_then, slice_get, slice_index, slice_set}
use Rattle.faust_types.specs.Clients.{IsClient}
use Rattle.faust_record.specs.Runs.{arrived_in, arriving, entries_of, next_message, sent_in}
use Rattle.faust_record.specs.Kept.{AreFilled, AreWithin, blank_entry, empty_outbox, is_sender, message_at, outbox_in, outbox_of, places_of, sent_after, sent_at}
use Rattle.faust_record.specs.declared.entry.Entry.{Entry}
use Rattle.faust_record.specs.declared.outbox.Outbox.{Outbox}
use Rattle.faust_record.proofs.Own.{arrived_in-append, entries_of-other, entries_of-own, kept-append}
use Rattle.faust_record.proofs.Agents.{set-other, set-own}

pub places_of-append : (i q : ℕ) (xs ys : List Entry) → places_of i q (xs ++ ys) ≡ places_of i q xs ++ places_of i (q + length xs) ys
places_of-append i q [] ys = let same : q ≡ q + 0 = omega arith in ap (λ (k : ℕ). places_of i k ys) same
places_of-append i q (x ∷ xs) ys =
    let same : suc q + length xs ≡ q + suc (length xs) = omega arith in
    let rest : places_of i (suc q) (xs ++ ys) ≡ places_of i (suc q) xs ++ places_of i (q + suc (length xs)) ys =
    places_of-append i (suc q) xs ys ∙ ap (λ (k : ℕ). places_of i (suc q) xs ++ places_of i k ys) same in
    kept-append (is_sender i x) q (places_of i (suc q) (xs ++ ys)) (places_of i (suc q) xs) (places_of i (q + suc (length xs)) ys) rest

-- one more entry of another client
pub outbox-other : (i : ℕ) (xs : List Entry) (e : Entry) → (e.client ≡ i → ⊥) → outbox_of i (xs ++ e ∷ []) ≡ outbox_of i xs
outbox-other i xs e other =
    let sent : places_of i 0 (xs ++ e ∷ []) ≡ places_of i 0 xs =
    places_of-append i 0 xs (e ∷ [])
    ∙ ap (λ (b : Bool). places_of i 0 xs ++ cond (b && is_some e.outcome.to_server) ((0 + length xs) ∷ []) []) (ne_eqb e.client i other)
    ∙ append-nil (places_of i 0 xs) in
    let own : entries_of i (xs ++ e ∷ []) ≡ entries_of i xs = entries_of-other i xs e other in
    ap (λ (places : List ℕ). record { sent = places; arrived = length (arrived_in (entries_of i (xs ++ e ∷ []))) }) sent
    ∙ ap (λ (l : List Entry). record { sent = places_of i 0 xs; arrived = length (arrived_in l) }) own

-- one more entry of the client
sent-own : (i : ℕ) (xs : List Entry) (e : Entry) → e.client ≡ i
    → places_of i 0 (xs ++ e ∷ []) ≡ places_of i 0 xs ++ cond (is_some e.outcome.to_server) (length xs ∷ []) []
sent-own i xs e own =
    let place : 0 + length xs ≡ length xs = omega arith in
    places_of-append i 0 xs (e ∷ [])
    ∙ ap (λ (b : Bool). places_of i 0 xs ++ cond (b && is_some e.outcome.to_server) ((0 + length xs) ∷ []) []) (eq-eqb e.client i own)
    ∙ ap (λ (k : ℕ). places_of i 0 xs ++ cond (is_some e.outcome.to_server) (k ∷ []) []) place

arrived-own : (i : ℕ) (xs : List Entry) (e : Entry) → e.client ≡ i
    → length (arrived_in (entries_of i (xs ++ e ∷ []))) ≡ length (arrived_in (entries_of i xs)) + length
    (option_to_list (arriving e.input))
arrived-own i xs e own =
    ap (λ (l : List Entry). length (arrived_in l)) (entries_of-own i xs e own)
    ∙ ap (length {A = List ℕ}) (arrived_in-append (entries_of i xs) (e ∷ []))
    ∙ length-append (arrived_in (entries_of i xs)) (option_to_list (arriving e.input) ++ [])
    ∙ ap (λ (l : List (List ℕ)). length (arrived_in (entries_of i xs)) + length l) (append-nil (option_to_list (arriving e.input)))

sent_after-parts : (sent : List ℕ) (count place : ℕ) (message : Option (List ℕ))
    → record { sent = sent ++ cond (is_some message) (place ∷ []) []; arrived = count } ≡ sent_after
    (record { sent = sent; arrived = count }) place message
sent_after-parts sent count place None = ap (λ (l : List ℕ). record { sent = l; arrived = count }) (append-nil sent)
sent_after-parts sent count place (Some message) = refl

pub outbox-own : (i : ℕ) (xs : List Entry) (e : Entry) → e.client ≡ i → arriving e.input ≡ None
    → outbox_of i (xs ++ e ∷ []) ≡ sent_after (outbox_of i xs) (length xs) e.outcome.to_server
outbox-own i xs e own input =
    let count : ℕ = length (arrived_in (entries_of i xs)) in
    let same : count + 0 ≡ count = omega arith in
    let arrived : length (arrived_in (entries_of i (xs ++ e ∷ []))) ≡ count =
    arrived-own i xs e own ∙ ap (λ (o : Option (List ℕ)). count + length (option_to_list o)) input ∙ same in
    ap (λ (k : ℕ). record { sent = places_of i 0 (xs ++ e ∷ []); arrived = k }) arrived
    ∙ ap (λ (l : List ℕ). record { sent = l; arrived = count }) (sent-own i xs e own)
    ∙ sent_after-parts (places_of i 0 xs) count (length xs) e.outcome.to_server

pub outbox-arrival : (i : ℕ) (xs : List Entry) (e : Entry) (message : List ℕ) → e.client ≡ i → arriving e.input ≡ Some message
    → e.outcome.to_server ≡ None → outbox_of i (xs ++ e ∷ []) ≡ record (outbox_of i xs) { arrived = (outbox_of i xs).arrived + 1 }
outbox-arrival i xs e message own input nothing =
    let count : ℕ = length (arrived_in (entries_of i xs)) in
    let arrived : length (arrived_in (entries_of i (xs ++ e ∷ []))) ≡ count + 1 =
    arrived-own i xs e own ∙ ap (λ (o : Option (List ℕ)). count + length (option_to_list o)) input in
    let sent : places_of i 0 (xs ++ e ∷ []) ≡ places_of i 0 xs =
    sent-own i xs e own ∙ ap (λ (o : Option (List ℕ)). places_of i 0 xs ++ cond (is_some o) (length xs ∷ []) []) nothing
    ∙ append-nil (places_of i 0 xs) in
    ap (λ (k : ℕ). record { sent = places_of i 0 (xs ++ e ∷ []); arrived = k }) arrived
    ∙ ap (λ (l : List ℕ). record { sent = l; arrived = count + 1 }) sent

-- all outboxes, where that of the client was set
pub filled-set : (n : ℕ) (outboxes : List Outbox) (xs : List Entry) (e : Entry) (now : Outbox) → AreFilled n outboxes xs
    → IsClient n e.client
    → now ≡ outbox_of e.client (xs ++ e ∷ []) → AreFilled n (slice_set outboxes (e.client - 1) now) (xs ++ e ∷ [])
filled-set n outboxes xs e now kept client set_is = record {
  counted = length-set outboxes (e.client - 1) now ∙ kept.counted;
  each = λ i within. elim (cases_eq e.client i) [
    | inl own ↦
        let same : outbox_in (slice_set outboxes (e.client - 1) now) e.client ≡ outbox_of e.client (xs ++ e ∷ []) =
        set-own outboxes e.client now empty_outbox n kept.counted client ∙ set_is in
        subst (λ (k : ℕ). outbox_in (slice_set outboxes (e.client - 1) now) k ≡ outbox_of k (xs ++ e ∷ [])) own same
    | inr other ↦
        set-other outboxes e.client i now empty_outbox n client within other ∙ kept.each i within ∙ sym (outbox-other i xs e other)
  ];
}

pub filled-first : (n : ℕ) → AreFilled n (replicate n empty_outbox) []
filled-first n = record {
  counted = length-replicate n empty_outbox;
  each = λ i within. get_or-replicate n (i - 1) empty_outbox empty_outbox (omega (arith, within.from_one, within.to_n));
}

-- the k-th message sent is that of the entry at the k-th place
sent-choice : (b : Bool) (x : Entry) (own : List Entry)
    → sent_in (cond b (x ∷ own) own) ≡ cond b (option_to_list x.outcome.to_server ++ sent_in own) (sent_in own)
sent-choice true x own = refl
sent-choice false x own = refl

sent-step : (b : Bool) (message : Option (List ℕ)) (q k : ℕ) (sent : List (List ℕ)) (places : List ℕ) (at : ℕ → Option (List ℕ))
    → at q ≡ message → ((j : ℕ) → slice_get sent j ≡ option_and_then at (slice_get places j))
    → slice_get (cond b (option_to_list message ++ sent) sent) k
    ≡ option_and_then at (slice_get (cond (b && is_some message) (q ∷ places) places) k)
sent-step false message q k sent places at here rest = rest k
sent-step true None q k sent places at here rest = rest k
sent-step true (Some message) q zero sent places at here rest = sym here
sent-step true (Some message) q (suc k) sent places at here rest = rest k

sent-by-place : (i q : ℕ) (all before xs back : List Entry) (k : ℕ) → all ≡ before ++ (xs ++ back) → length before ≡ q
    → slice_get (sent_in (entries_of i xs)) k ≡ option_and_then (sent_at all) (slice_get (places_of i q xs) k)
sent-by-place i q all before [] back k whole sized = refl
sent-by-place i q all before (x ∷ xs) back k whole sized =
    let here : sent_at all q ≡ x.outcome.to_server =
    ap (λ (l : List Entry). sent_at l q) whole
    ∙ ap (λ (e : Entry). e.outcome.to_server) (get_or_at before x (xs ++ back) blank_entry q sized) in
    let next : all ≡ (before ++ x ∷ []) ++ (xs ++ back) = whole ∙ sym (append_assoc before (x ∷ []) (xs ++ back)) in
    let longer : length (before ++ x ∷ []) ≡ suc q = length-append before (x ∷ []) ∙ omega (arith, sized) in
    let rest : (j : ℕ) → slice_get (sent_in (entries_of i xs)) j ≡ option_and_then (sent_at all) (slice_get (places_of i (suc q) xs) j) =
    λ j. sent-by-place i (suc q) all (before ++ x ∷ []) xs back j next longer in
    ap (λ (l : List (List ℕ)). slice_get l k) (sent-choice (x.client == i) x (entries_of i xs))
    ∙ sent-step (x.client == i) x.outcome.to_server q k (sent_in (entries_of i xs)) (places_of i (suc q) xs) (sent_at all) here rest

-- the message that is due, read off the outbox; the entries may go on behind those that it is of
pub message-due : (i : ℕ) (xs back : List Entry) → message_at (xs ++ back) (outbox_of i xs) ≡ next_message i xs
message-due i xs back = sym (sent-by-place i 0 (xs ++ back) [] xs back (length (arrived_in (entries_of i xs))) refl refl)

-- each place is that of an entry
within-step : (b : Bool) (q more : ℕ) (places : List ℕ) → AreWithin (suc q + more) places
    → AreWithin (suc q + more) (cond b (q ∷ places) places)
within-step false q more places rest k inside = rest k inside
within-step true q more places rest zero inside = omega arith
within-step true q more places rest (suc k) inside = rest k (omega (arith, inside))

places-within : (i q : ℕ) (xs : List Entry) → AreWithin (q + length xs) (places_of i q xs)
places-within i q [] = λ k inside. absurd (omega (arith, inside))
places-within i q (x ∷ xs) =
    let same : suc q + length xs ≡ q + suc (length xs) = omega arith in
    subst (λ (n : ℕ). AreWithin n (places_of i q (x ∷ xs))) same
    (within-step (is_sender i x) q (length xs) (places_of i (suc q) xs) (places-within i (suc q) xs))

pub outbox-within : (i : ℕ) (xs back : List Entry) → AreWithin (length (xs ++ back)) (outbox_of i xs).sent
outbox-within i xs back = λ k inside. omega (arith, length-append xs back, places-within i 0 xs k inside)
