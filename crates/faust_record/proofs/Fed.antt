-- Messages that arrive in the order of entries.
use Rattle.std.proofs.Common.{◌≡◌, ◌+◌, ◌-◌, ◌<◌, ◌≤◌, ◌==◌, ℕ, zero, suc, Bool, true, false, cond, List, [], ◌∷◌, ◌++◌, length, get_or, take, drop, Option, Some, None, option_to_list, replicate, Result, Ok, Err, refl, sym, ap, ◌∙◌, subst, inl, inr, arith, length-append}
use Rattle.std.proofs.lemmas.List.{drop_all, drop_more, get_or_read, length-take-le, take-append-drop, take_all, take_more}
use Rattle.std.proofs.lemmas.Bool.{ne_eqb}
use Rattle.std.specs.Prelude.{IfSome, slice_set}
use Rattle.std.specs.Str.{bytes_eq}
use Rattle.std.proofs.lemmas.Slice.Eq.{bytes_eq-Decides}
use Rattle.faust_types.specs.Clients.{IsClient}
use Rattle.faust_types.specs.Outcomes.{nothing}
use Rattle.faust_types.specs.declared.outcome.Outcome.{Outcome}
use Rattle.faust_record.specs.Runs.{AreFed, AreOfClients, IsFed, arrived_in, arriving, entries_of, next_in, next_message}
use Rattle.faust_record.specs.Kept.{AreFilled, AreWithin, empty_outbox, message_at, outbox_in, outbox_of, sent_after}
use Rattle.faust_record.specs.Merging.{first_frame, frame_at, frame_of, is_due, or_else}
use Rattle.faust_record.specs.Placing.{AreAllFed, AreFedTo, ArePlacedFor, Delivers, FeedsOne, IsFirstFrame, IsPlacedFor}
use Rattle.faust_record.specs.declared.entry.Entry.{Entry}
use Rattle.faust_record.specs.declared.errors.MergeError.{MergeError}
use Rattle.faust_record.specs.declared.errors.MergeError.TheVariants as merges
use Rattle.faust_record.specs.declared.outbox.Outbox.{Outbox}
use Rattle.faust_record.proofs.Runs.{clients-append}
use Rattle.faust_record.proofs.Outboxes.{filled-first, filled-set, message-due, outbox-arrival, outbox-own, outbox-within}

pub placed-at : (n : ℕ) (xs : List Entry) (q : ℕ) (d : Entry) → ArePlacedFor n xs → q < length xs → IsPlacedFor n (get_or xs q d)
placed-at n [] q d all inside = absurd (omega (arith, inside))
placed-at n (x ∷ xs) zero d all inside = all.0
placed-at n (x ∷ xs) (suc q) d all inside = placed-at n xs q d all.1 (omega (arith, inside))

pub entry-placed : (n : ℕ) (xs : List Entry) (q : ℕ) (e d : Entry) → ArePlacedFor n xs → q < length xs → e ≡ get_or xs q d
    → IsPlacedFor n e
entry-placed n xs q e d all inside read = subst (IsPlacedFor n) (sym read) (placed-at n xs q d all inside)

pub act-client : (n : ℕ) (xs : List Entry) (q : ℕ) (e d : Entry) → ArePlacedFor n xs → q < length xs → e ≡ get_or xs q d
    → arriving (get_or xs q d).input ≡ None → IsClient n e.client
act-client n xs q e d all inside read act =
    (entry-placed n xs q e d all inside read).act_of_client (ap (λ (x : Entry). arriving x.input) read ∙ act)

-- an entry that is no arrival
fed-noted : (n : ℕ) (outboxes : List Outbox) (before back all : List Entry) (e : Entry) (now : Outbox)
    → AreFedTo n outboxes before (e ∷ back) all → arriving e.input ≡ None → IsClient n e.client
    → now ≡ sent_after (outbox_in outboxes e.client) (length before) e.outcome.to_server
    → AreFedTo n (slice_set outboxes (e.client - 1) now) (before ++ e ∷ []) back all
fed-noted n outboxes before back all e now fed act client noted =
    let now_is : now ≡ outbox_of e.client (before ++ e ∷ []) =
    noted ∙ ap (λ (o : Outbox). sent_after o (length before) e.outcome.to_server) (fed.filled.each e.client client)
    ∙ sym (outbox-own e.client before e refl act) in
    let later : Option MergeError = first_frame (before ++ e ∷ []) back in
    record {
      filled = filled-set n outboxes before e now fed.filled client now_is;
      of_clients = clients-append n before e fed.of_clients client;
      left = sym (ap (λ (o : Option (List ℕ)). or_else (frame_at e.client before o) later) act) ∙ fed.left;
    }

-- an arrival of the message that is due
fed-delivered : (n : ℕ) (outboxes : List Outbox) (before back all : List Entry) (e : Entry) (message : List ℕ) (now : Outbox)
    → AreFedTo n outboxes before (e ∷ back) all → arriving e.input ≡ Some message → e.outcome ≡ nothing → IsClient n e.client
    → is_due (next_message e.client before) message ≡ true
    → now ≡ record (outbox_in outboxes e.client) { arrived = (outbox_in outboxes e.client).arrived + 1 }
    → AreFedTo n (slice_set outboxes (e.client - 1) now) (before ++ e ∷ []) back all
fed-delivered n outboxes before back all e message now fed arrival alone client due taken =
    let nothing_sent : e.outcome.to_server ≡ None = ap (λ (o : Outcome). o.to_server) alone in
    let now_is : now ≡ outbox_of e.client (before ++ e ∷ []) =
    taken ∙ ap (λ (o : Outbox). record o { arrived = o.arrived + 1 }) (fed.filled.each e.client client)
    ∙ sym (outbox-arrival e.client before e message refl arrival nothing_sent) in
    let later : Option MergeError = first_frame (before ++ e ∷ []) back in
    let frame : MergeError = frame_of e.client before message in
    let here : first_frame before (e ∷ back) ≡ later =
    ap (λ (o : Option (List ℕ)). or_else (frame_at e.client before o) later) arrival
    ∙ ap (λ (b : Bool). or_else (cond b None (Some frame)) later) due in
    record {
      filled = filled-set n outboxes before e now fed.filled client now_is;
      of_clients = clients-append n before e fed.of_clients client;
      left = sym here ∙ fed.left;
    }

-- an arrival of another message
frame-found : (n : ℕ) (outboxes : List Outbox) (before back all : List Entry) (e : Entry) (message : List ℕ)
    → AreFedTo n outboxes before (e ∷ back) all → arriving e.input ≡ Some message → is_due (next_message e.client before) message ≡ false
    → first_frame [] all ≡ Some (frame_of e.client before message)
frame-found n outboxes before back all e message fed arrival due =
    let later : Option MergeError = first_frame (before ++ e ∷ []) back in
    let frame : MergeError = frame_of e.client before message in
    sym fed.left
    ∙ ap (λ (o : Option (List ℕ)). or_else (frame_at e.client before o) later) arrival
    ∙ ap (λ (b : Bool). or_else (cond b None (Some frame)) later) due

-- a number that is no client sent nothing
none-of : (n i : ℕ) (xs : List Entry) → AreOfClients n xs → (IsClient n i → ⊥) → entries_of i xs ≡ []
none-of n i [] all stranger = refl
none-of n i (x ∷ xs) all stranger =
    let other : x.client ≡ i → ⊥ = λ same. stranger (subst (IsClient n) same all.0) in
    ap (λ (b : Bool). cond b (x ∷ entries_of i xs) (entries_of i xs)) (ne_eqb x.client i other) ∙ none-of n i xs all.1 stranger

stranger-frame : (n i : ℕ) (before : List Entry) (message : List ℕ) → AreOfClients n before → (IsClient n i → ⊥)
    → (is_due (next_message i before) message ≡ false) × (frame_of i before message ≡ merges.Frame i 1 None message)
stranger-frame n i before message all stranger =
    let none : entries_of i before ≡ [] = none-of n i before all stranger in (
      ap (λ (l : List Entry). is_due (next_in l) message) none,
      ap (λ (l : List Entry). merges.Frame i (length (arrived_in l) + 1) (next_in l) message) none,
    )

-- the entry at a place, and those before and behind it
pub record IsAt (all : List Entry) (q : ℕ) (e : Entry) : Type 0 where
  pub here : drop q all ≡ e ∷ drop (q + 1) all
  pub more : take (q + 1) all ≡ take q all ++ e ∷ []
  pub sized : length (take q all) ≡ q
  pub whole : all ≡ take q all ++ (e ∷ drop (q + 1) all)

pub at-place : (all : List Entry) (q : ℕ) (e d : Entry) → q < length all → e ≡ get_or all q d → IsAt all q e
at-place all q e d inside read =
    let here : drop q all ≡ e ∷ drop (q + 1) all = drop_more all q d inside ∙ ap (λ (x : Entry). x ∷ drop (q + 1) all) (sym read) in
    record {
      here = here;
      more = take_more all q d inside ∙ ap (λ (x : Entry). take q all ++ x ∷ []) (sym read);
      sized = length-take-le q all (omega (arith, inside));
      whole = sym (take-append-drop q all) ∙ ap (λ (l : List Entry). take q all ++ l) here;
    }

fed-here : (n : ℕ) (outboxes : List Outbox) (all : List Entry) (q : ℕ) (e : Entry) → IsAt all q e
    → AreFedTo n outboxes (take q all) (drop q all) all → AreFedTo n outboxes (take q all) (e ∷ drop (q + 1) all) all
fed-here n outboxes all q e at fed = subst (λ (l : List Entry). AreFedTo n outboxes (take q all) l all) at.here fed

fed-next : (n : ℕ) (outboxes : List Outbox) (all : List Entry) (q : ℕ) (e : Entry) → IsAt all q e
    → AreFedTo n outboxes (take q all ++ e ∷ []) (drop (q + 1) all) all → AreFedTo n outboxes (take (q + 1) all) (drop (q + 1) all) all
fed-next n outboxes all q e at fed = subst (λ (l : List Entry). AreFedTo n outboxes l (drop (q + 1) all) all) (sym at.more) fed

pub noted-next : (n : ℕ) (outboxes : List Outbox) (all : List Entry) (q : ℕ) (e : Entry) (now : Outbox) → IsAt all q e
    → AreFedTo n outboxes (take q all) (drop q all) all → arriving e.input ≡ None → IsClient n e.client
    → now ≡ sent_after (outbox_in outboxes e.client) q e.outcome.to_server
    → AreFedTo n (slice_set outboxes (e.client - 1) now) (take (q + 1) all) (drop (q + 1) all) all
noted-next n outboxes all q e now at fed act client noted =
    fed-next n (slice_set outboxes (e.client - 1) now) all q e at
    (fed-noted n outboxes (take q all) (drop (q + 1) all) all e now (fed-here n outboxes all q e at fed) act client
    (noted ∙ ap (λ (k : ℕ). sent_after (outbox_in outboxes e.client) k e.outcome.to_server) (sym at.sized)))

-- the message that is due at an entry, read off the outbox of its client
pub due-here : (n : ℕ) (outboxes : List Outbox) (all : List Entry) (q : ℕ) (e : Entry) → IsAt all q e
    → AreFedTo n outboxes (take q all) (drop q all) all → IsClient n e.client
    → message_at all (outbox_in outboxes e.client) ≡ next_message e.client (take q all)
due-here n outboxes all q e at fed client =
    ap (message_at all) (fed.filled.each e.client client)
    ∙ ap (λ (l : List Entry). message_at l (outbox_of e.client (take q all))) at.whole
    ∙ message-due e.client (take q all) (e ∷ drop (q + 1) all)

pub within-here : (n : ℕ) (outboxes : List Outbox) (all : List Entry) (q : ℕ) (e : Entry) → IsAt all q e
    → AreFedTo n outboxes (take q all) (drop q all) all → IsClient n e.client → AreWithin (length all) (outbox_in outboxes e.client).sent
within-here n outboxes all q e at fed client =
    subst (λ (o : Outbox). AreWithin (length all) o.sent) (sym (fed.filled.each e.client client))
    (subst (λ (l : List Entry). AreWithin (length l) (outbox_of e.client (take q all)).sent) (sym at.whole)
    (outbox-within e.client (take q all) (e ∷ drop (q + 1) all)))

-- no more arrived than there are entries
one-at-most : (o : Option (List ℕ)) → length (option_to_list o) ≤ 1
one-at-most None = omega arith
one-at-most (Some message) = omega arith

arrived-few : (xs : List Entry) → length (arrived_in xs) ≤ length xs
arrived-few [] = omega arith
arrived-few (x ∷ xs) =
    omega (arith, length-append (option_to_list (arriving x.input)) (arrived_in xs), one-at-most (arriving x.input), arrived-few xs)

kept-few : (b : Bool) (x : Entry) (rest : List Entry) → length (cond b (x ∷ rest) rest) ≤ suc (length rest)
kept-few true x rest = omega arith
kept-few false x rest = omega arith

own-few : (i : ℕ) (xs : List Entry) → length (entries_of i xs) ≤ length xs
own-few i [] = omega arith
own-few i (x ∷ xs) = omega (arith, kept-few (x.client == i) x (entries_of i xs), own-few i xs)

pub few-here : (n : ℕ) (outboxes : List Outbox) (all : List Entry) (q : ℕ) (e : Entry) → IsAt all q e
    → AreFedTo n outboxes (take q all) (drop q all) all → IsClient n e.client → (outbox_in outboxes e.client).arrived ≤ q
few-here n outboxes all q e at fed client =
    let same : (outbox_in outboxes e.client).arrived ≡ length (arrived_in (entries_of e.client (take q all))) =
    ap (λ (o : Outbox). o.arrived) (fed.filled.each e.client client) in
    omega (arith, same, arrived-few (entries_of e.client (take q all)), own-few e.client (take q all), at.sized)

-- what delivering answers
pub delivered-next : {Done : Type 0} (result : Result Done MergeError) (n : ℕ) (outboxes : List Outbox) (all : List Entry) (q : ℕ)
    (e : Entry)
    (message : List ℕ) (now : Outbox) → IsAt all q e → AreFedTo n outboxes (take q all) (drop q all) all → arriving e.input ≡ Some message
    → e.outcome ≡ nothing → IsClient n e.client
    → Delivers result e.client (message_at all (outbox_in outboxes e.client)) (outbox_in outboxes e.client) now message
    → FeedsOne result n (slice_set outboxes (e.client - 1) now) all (q + 1)
delivered-next {Done} (Ok done) n outboxes all q e message now at fed arrival alone client delivers =
    let due : is_due (next_message e.client (take q all)) message ≡ true =
    ap (λ (o : Option (List ℕ)). is_due o message) (sym (due-here n outboxes all q e at fed client)) ∙ delivers.0 in
    fed-next n (slice_set outboxes (e.client - 1) now) all q e at
    (fed-delivered n outboxes (take q all) (drop (q + 1) all) all e message now (fed-here n outboxes all q e at fed) arrival alone
    client due delivers.1)
delivered-next {Done} (Err (merges.Client place other)) n outboxes all q e message now at fed arrival alone client delivers = absurd
    delivers
delivered-next {Done} (Err (merges.Frame i index sent got)) n outboxes all q e message now at fed arrival alone client delivers =
    let same = due-here n outboxes all q e at fed client in
    let due : is_due (next_message e.client (take q all)) message ≡ false =
    ap (λ (o : Option (List ℕ)). is_due o message) (sym same) ∙ delivers.0 in
    let count : (outbox_in outboxes e.client).arrived ≡ length (arrived_in (entries_of e.client (take q all))) =
    ap (λ (o : Outbox). o.arrived) (fed.filled.each e.client client) in
    frame-found n outboxes (take q all) (drop (q + 1) all) all e message (fed-here n outboxes all q e at fed) arrival due
    ∙ ap (λ (f : MergeError). Some f)
    (sym (delivers.1
    ∙ ap (λ (k : ℕ). merges.Frame e.client (k + 1) (message_at all (outbox_in outboxes e.client)) message) count
    ∙ ap (λ (o : Option (List ℕ)). merges.Frame e.client (length (arrived_in (entries_of e.client (take q all))) + 1) o message) same))
delivered-next {Done} (Err merges.OutOfMemory) n outboxes all q e message now at fed arrival alone client delivers = tt

pub stranger-next : (n : ℕ) (outboxes : List Outbox) (all : List Entry) (q : ℕ) (e : Entry) (message : List ℕ) → IsAt all q e
    → AreFedTo n outboxes (take q all) (drop q all) all → arriving e.input ≡ Some message → (IsClient n e.client → ⊥)
    → first_frame [] all ≡ Some (merges.Frame e.client 1 None message)
stranger-next n outboxes all q e message at fed arrival stranger =
    let frame = stranger-frame n e.client (take q all) message fed.of_clients stranger in
    frame-found n outboxes (take q all) (drop (q + 1) all) all e message (fed-here n outboxes all q e at fed) arrival frame.0
    ∙ ap (λ (f : MergeError). Some f) frame.1

-- before the first entry, and behind the last one
pub fed-first : (n : ℕ) (all : List Entry) → AreFedTo n (replicate n empty_outbox) (take 0 all) (drop 0 all) all
fed-first n all = record { filled = filled-first n; of_clients = tt; left = refl }

pub fed-last : (n : ℕ) (outboxes : List Outbox) (all : List Entry) (q : ℕ) → length all ≤ q
    → AreFedTo n outboxes (take q all) (drop q all) all → AreAllFed n outboxes all
fed-last n outboxes all q beyond fed =
    let front : take q all ≡ all = take_all q all beyond in
    record {
      filled = subst (AreFilled n outboxes) front fed.filled;
      of_clients = subst (AreOfClients n) front fed.of_clients;
      none_left = sym fed.left ∙ ap (λ (l : List Entry). first_frame (take q all) l) (drop_all q all beyond);
    }

-- where no arrival is of another message, entries are fed
due-tells : (due : Option (List ℕ)) (message : List ℕ) → is_due due message ≡ true → due ≡ Some message
due-tells None message is = absurd (cc)
due-tells (Some sent) message is = ap (λ (l : List ℕ). Some l) ((bytes_eq-Decides sent message).0 is)

due-choice : {P : Type 0} (b : Bool) (frame : MergeError) (later : Option MergeError) → or_else (cond b None (Some frame)) later ≡ None
    → (b ≡ true → P) → P × (later ≡ None)
due-choice {P} true frame later none tells = (tells refl, none)
due-choice {P} false frame later none tells = absurd (cc)

frame-none : (i : ℕ) (before : List Entry) (arrival : Option (List ℕ)) (later : Option MergeError)
    → or_else (frame_at i before arrival) later ≡ None
    → IfSome arrival (λ message. next_message i before ≡ Some message) × (later ≡ None)
frame-none i before None later none = (tt, none)
frame-none i before (Some message) later none =
    due-choice (is_due (next_message i before) message) (frame_of i before message) later none
    (λ due. due-tells (next_message i before) message due)

pub all-fed : (before rest : List Entry) → first_frame before rest ≡ None → AreFed before rest
all-fed before [] none = tt
all-fed before (x ∷ rest) none =
    let parts = frame-none x.client before (arriving x.input) (first_frame (before ++ x ∷ []) rest) none in
    (parts.0, all-fed (before ++ x ∷ []) rest parts.1)

-- the outbox of a client, as it is read
pub outbox-read : (n : ℕ) (outboxes : List Outbox) (before : List Entry) (k i : ℕ) (outbox : Outbox) → AreFilled n outboxes before
    → IsClient n i → k ≡ i → outbox ≡ get_or outboxes (k - 1) outbox → outbox ≡ outbox_in outboxes i
outbox-read n outboxes before k i outbox filled client same read =
    let inside : k - 1 < length outboxes = omega (arith, filled.counted, client.from_one, client.to_n, same) in
    get_or_read outboxes (k - 1) outbox inside read empty_outbox ∙ ap (outbox_in outboxes) same
