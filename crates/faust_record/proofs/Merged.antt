-- Journals and arrivals in the order of their numbers are a run, and what merging is due.
use Rattle.std.proofs.Common.{◌≡◌, ◌+◌, ◌-◌, ◌<◌, ◌≤◌, ◌==◌, ◌&&◌, ℕ, zero, suc, Bool, true, false, cond, List, [], ◌∷◌, ◌++◌, length, get_or, map, take, drop, Option, Some, None, is_none, Result, Ok, Err, refl, sym, ap, ◌∙◌, subst, inl, inr, arith}
use Rattle.std.proofs.lemmas.List.{append-nil, get_or-map, length-map}
use Rattle.std.proofs.lemmas.Bool.{cases_Bool, cases_eq, cases_lt, eq-eqb, eqb-true, ne_eqb}
use Rattle.faust_types.specs.Clients.{IsClient}
use Rattle.faust_types.specs.Outcomes.{nothing}
use Rattle.faust_types.specs.Ranges.{IsConfig}
use Rattle.faust_types.specs.declared.config.Config.{Config}
use Rattle.faust_types.specs.declared.arrival.Arrival.{Arrival}
use Rattle.faust_agent.specs.State.{Member, first_client, first_member}
use Rattle.faust_agent.specs.declared.client.Client.{Client}
use Rattle.faust_record.specs.Entries.{IsStep, MayCome, Obeys, member_after, outcome_at, replay, replayed, state_at}
use Rattle.faust_record.specs.Runs.{IsRun, Run, arriving, entries_of}
use Rattle.faust_record.specs.Journals.{AreJournals, AreOwn, IsJournal, IsOwn, Log, first_log, member_of}
use Rattle.faust_record.specs.Kept.{AreFilled, AreParts, AreReplayed, agent_in}
use Rattle.faust_record.specs.Merging.{AreEachBelow, AreOfConfig, MergeRefuses, by_number, entry_of, first_frame, first_stranger, gathered, inserted, logged_in, merged, numbers_of, run_unless}
use Rattle.faust_record.specs.Laws.{AreForAll, acts_of}
use Rattle.faust_record.specs.Placing.{AreAllFed, AreBelow, ArePlacedFor, IsFirstFrame, IsPlacedFor, placed}
use Rattle.faust_record.specs.declared.entry.Input.{Input}
use Rattle.faust_record.specs.declared.entry.Input.TheVariants as inputs
use Rattle.faust_record.specs.declared.entry.Entry.{Entry}
use Rattle.faust_record.specs.declared.errors.MergeError.{MergeError}
use Rattle.faust_record.specs.declared.errors.MergeError.TheVariants as merges
use Rattle.faust_record.specs.declared.outbox.Outbox.{Outbox}
use Rattle.faust_record.proofs.Inputs.{outcome-arrival, state-arrival}
use Rattle.faust_record.proofs.Fed.{all-fed}
use Rattle.faust_record.proofs.Sorting.{by_number-counted, by_number-rising, inserted-first, inserted-later, length-by_number, sifted, sifted-append, sifted-by_number}
use Rattle.faust_record.proofs.Tables.{below-append, below-counted, length-placed, placed-append, placed-counted}

-- the entries of client i that are no arrivals
abbrev pub is_act : ℕ → Entry → Bool
is_act i e = (e.client == i) && is_none (arriving e.input)

none-is-some : {X : Type 0} (x : X) → ◌≡◌ {A = Option X} None (Some x) → ⊥
none-is-some {X} x same = cc

-- each entry but the arrivals is of a client, in whatever order they stand
placed-inserted : (n : ℕ) (e : Entry) (xs : List Entry) → IsPlacedFor n e → ArePlacedFor n xs → ArePlacedFor n (inserted e xs)
placed-inserted n e [] here all = (here, tt)
placed-inserted n e (x ∷ xs) here all = elim (cases_lt x.number e.number) [
  | inl later ↦ subst (ArePlacedFor n) (sym (inserted-later e x xs later)) (all.0, placed-inserted n e xs here all.1)
  | inr first ↦ subst (ArePlacedFor n) (sym (inserted-first e x xs first)) (here, all)
]

placed-sorted : (n : ℕ) (xs : List Entry) → ArePlacedFor n xs → ArePlacedFor n (by_number xs)
placed-sorted n [] all = tt
placed-sorted n (x ∷ xs) all = placed-inserted n x (by_number xs) all.0 (placed-sorted n xs all.1)

placed-both : (n : ℕ) (xs ys : List Entry) → ArePlacedFor n xs → ArePlacedFor n ys → ArePlacedFor n (xs ++ ys)
placed-both n [] ys front back = back
placed-both n (x ∷ xs) ys front back = (front.0, placed-both n xs ys front.1 back)

placed-own : (n me : ℕ) (xs : List Entry) → IsClient n me → AreOwn me xs → ArePlacedFor n xs
placed-own n me [] client own = tt
placed-own n me (x ∷ xs) client own =
    let here : IsPlacedFor n x = record {
      act_of_client = λ act. subst (IsClient n) (sym own.0.of_client) client;
      arrival_alone = λ message arrival. absurd (none-is-some message (sym own.0.no_arrival ∙ arrival));
    } in
    (here, placed-own n me xs client own.1)

placed-logs : (config : Config) (logs : List Log) → AreJournals logs → AreOfConfig config logs
    → ArePlacedFor config.clients (logged_in logs)
placed-logs config [] journals same = tt
placed-logs config (log ∷ rest) journals same =
    let client : IsClient config.clients log.me = subst (λ (c : Config). IsClient c.clients log.me) same.0 journals.0.me_in_range in
    placed-both config.clients log.entries (logged_in rest) (placed-own config.clients log.me log.entries client journals.0.own)
    (placed-logs config rest journals.1 same.1)

placed-arrivals : (n : ℕ) (arrivals : List Arrival) → ArePlacedFor n (map entry_of arrivals)
placed-arrivals n [] = tt
placed-arrivals n (a ∷ rest) =
    let here : IsPlacedFor n (entry_of a) = record {
      act_of_client = λ act. absurd (none-is-some a.message (sym act));
      arrival_alone = λ message arrival. refl;
    } in
    (here, placed-arrivals n rest)

pub placed-gathered : (config : Config) (logs : List Log) (arrivals : List Arrival) → AreJournals logs → AreOfConfig config logs
    → ArePlacedFor config.clients (by_number (gathered logs arrivals))
placed-gathered config logs arrivals journals same =
    placed-sorted config.clients (gathered logs arrivals)
    (placed-both config.clients (logged_in logs) (map entry_of arrivals) (placed-logs config logs journals same)
    (placed-arrivals config.clients arrivals))

-- arrivals change nothing at their client
arrival-is : (input : Input) (message : List ℕ) → arriving input ≡ Some message → input ≡ inputs.Arrive message
arrival-is (inputs.Write value) message is = absurd (none-is-some message is)
arrival-is (inputs.Read register) message is = absurd (none-is-some message is)
arrival-is (inputs.Reply bytes) message is = absurd (none-is-some message is)
arrival-is (inputs.Peer bytes) message is = absurd (none-is-some message is)
arrival-is (inputs.Tick moment) message is = absurd (none-is-some message is)
arrival-is (inputs.Arrive other) message is = let same : other ≡ message = cc in ap (λ (m : List ℕ). inputs.Arrive m) same

arrival-step : (config : Config) (i : ℕ) (st : Client) (e : Entry) (message : List ℕ) → arriving e.input ≡ Some message
    → e.outcome ≡ nothing
    → IsStep config i st e
arrival-step config i st e message arrival alone =
    let is : e.input ≡ inputs.Arrive message = arrival-is e.input message arrival in
    record {
      may_come = subst (MayCome config i st) (sym is) tt;
      outcome_is = alone ∙ outcome-arrival config i st message ∙ ap (outcome_at config i st) (sym is);
    }

arrival-state : (config : Config) (i : ℕ) (st : Client) (e : Entry) (message : List ℕ) → arriving e.input ≡ Some message
    → state_at config i st e.input ≡ st
arrival-state config i st e message arrival =
    ap (state_at config i st) (arrival-is e.input message arrival) ∙ state-arrival config i st message

obeys-choice : (config : Config) (i : ℕ) (st : Client) (e : Entry) (b : Bool) (arrival : Option (List ℕ)) (own acts : List Entry)
    → arriving e.input ≡ arrival → ((message : List ℕ) → arriving e.input ≡ Some message → e.outcome ≡ nothing)
    → ((from : Client) → Obeys config i from acts → Obeys config i from own)
    → Obeys config i st (cond (b && is_none arrival) (e ∷ acts) acts) → Obeys config i st (cond b (e ∷ own) own)
obeys-choice config i st e false arrival own acts is alone rest obeys = rest st obeys
obeys-choice config i st e true None own acts is alone rest obeys = (obeys.0, rest (state_at config i st e.input) obeys.1)
obeys-choice config i st e true (Some message) own acts is alone rest obeys = (
  arrival-step config i st e message is (alone message is),
  subst (λ (s : Client). Obeys config i s own) (sym (arrival-state config i st e message is)) (rest st obeys),
)

obeys-with : (config : Config) (n i : ℕ) (st : Client) (xs : List Entry) → ArePlacedFor n xs → Obeys config i st (sifted (is_act i) xs)
    → Obeys config i st (entries_of i xs)
obeys-with config n i st [] all obeys = tt
obeys-with config n i st (x ∷ xs) all obeys =
    obeys-choice config i st x (x.client == i) (arriving x.input) (entries_of i xs) (sifted (is_act i) xs) refl all.0.arrival_alone
    (λ from. obeys-with config n i from xs all.1) obeys

replayed-choice : (config : Config) (i : ℕ) (st : Client) (e : Entry) (b : Bool) (arrival : Option (List ℕ)) (own acts : List Entry)
    → arriving e.input ≡ arrival → ((from : Client) → replayed config i from own ≡ replayed config i from acts)
    → replayed config i st (cond b (e ∷ own) own) ≡ replayed config i st (cond (b && is_none arrival) (e ∷ acts) acts)
replayed-choice config i st e false arrival own acts is rest = rest st
replayed-choice config i st e true None own acts is rest = rest (state_at config i st e.input)
replayed-choice config i st e true (Some message) own acts is rest =
    ap (λ (s : Client). replayed config i s own) (arrival-state config i st e message is) ∙ rest st

replayed-with : (config : Config) (i : ℕ) (st : Client) (xs : List Entry)
    → replayed config i st (entries_of i xs) ≡ replayed config i st (sifted (is_act i) xs)
replayed-with config i st [] = refl
replayed-with config i st (x ∷ xs) =
    replayed-choice config i st x (x.client == i) (arriving x.input) (entries_of i xs) (sifted (is_act i) xs) refl
    (λ from. replayed-with config i from xs)

-- the entries of a journal among those of all
all-kept : (i : ℕ) (xs : List Entry) → AreOwn i xs → sifted (is_act i) xs ≡ xs
all-kept i [] own = refl
all-kept i (x ∷ xs) own =
    ap (λ (b : Bool). cond (b && is_none (arriving x.input)) (x ∷ sifted (is_act i) xs) (sifted (is_act i) xs))
    (eq-eqb x.client i own.0.of_client)
    ∙ ap (λ (o : Option (List ℕ)). cond (is_none o) (x ∷ sifted (is_act i) xs) (sifted (is_act i) xs)) own.0.no_arrival
    ∙ ap (λ (l : List Entry). x ∷ l) (all-kept i xs own.1)

none-kept : (i me : ℕ) (xs : List Entry) → AreOwn me xs → (me ≡ i → ⊥) → sifted (is_act i) xs ≡ []
none-kept i me [] own other = refl
none-kept i me (x ∷ xs) own other =
    let apart : x.client ≡ i → ⊥ = λ same. other (sym own.0.of_client ∙ same) in
    ap (λ (b : Bool). cond (b && is_none (arriving x.input)) (x ∷ sifted (is_act i) xs) (sifted (is_act i) xs)) (ne_eqb x.client i apart)
    ∙ none-kept i me xs own.1 other

no-act : (b : Bool) (x : Entry) (rest : List Entry) → rest ≡ [] → cond (b && false) (x ∷ rest) rest ≡ []
no-act true x rest none = none
no-act false x rest none = none

no-acts : (i : ℕ) (arrivals : List Arrival) → sifted (is_act i) (map entry_of arrivals) ≡ []
no-acts i [] = refl
no-acts i (a ∷ rest) = no-act (a.client == i) (entry_of a) (sifted (is_act i) (map entry_of rest)) (no-acts i rest)

stranger-choice : (b : Bool) (rest : Option MergeError) (e : MergeError) → cond b rest (Some e) ≡ None → (b ≡ true) × (rest ≡ None)
stranger-choice true rest e none = (refl, none)
stranger-choice false rest e none = absurd (none-is-some e (sym none))

-- where no journal is of another client than its place says
at-place : (place : ℕ) (log : Log) (rest : List Log) → first_stranger place (log ∷ rest) ≡ None
    → (log.me ≡ place) × (first_stranger (suc place) rest ≡ None)
at-place place log rest none =
    let parts = stranger-choice (log.me == place) (first_stranger (suc place) rest) (merges.Client place log.me) none in
    (eqb-true log.me place parts.0, parts.1)

acts-before : (place i : ℕ) (logs : List Log) → first_stranger place logs ≡ None → AreJournals logs → i < place
    → sifted (is_act i) (logged_in logs) ≡ []
acts-before place i [] none journals before = refl
acts-before place i (log ∷ rest) none journals before =
    let here = at-place place log rest none in
    let other : log.me ≡ i → ⊥ = λ same. omega (arith, here.0, same, before) in
    sifted-append (is_act i) log.entries (logged_in rest)
    ∙ ap (λ (l : List Entry). l ++ sifted (is_act i) (logged_in rest)) (none-kept i log.me log.entries journals.0.own other)
    ∙ acts-before (suc place) i rest here.1 journals.1 (omega (arith, before))

-- the journal of client i, and its entries among those of all
pub record IsLogOf (config : Config) (i : ℕ) (log : Log) (all : List Entry) : Type 0 where
  pub journal : IsJournal log
  pub config_is : log.config ≡ config
  pub me_is : log.me ≡ i
  pub acts : sifted (is_act i) all ≡ log.entries

log-of : (config : Config) (place i : ℕ) (logs : List Log) (d : Log) → first_stranger place logs ≡ None → AreJournals logs
    → AreOfConfig config logs
    → place ≤ i → i - place < length logs → IsLogOf config i (get_or logs (i - place) d) (logged_in logs)
log-of config place i [] d none journals same from inside = absurd (omega (arith, inside))
log-of config place i (log ∷ rest) d none journals same from inside =
    let here = at-place place log rest none in
    elim (cases_eq i place) [
      | inl this ↦
          let first : 0 ≡ i - place = omega (arith, this) in
          let me_is : log.me ≡ i = here.0 ∙ sym this in
          let own : AreOwn i log.entries = subst (λ (k : ℕ). AreOwn k log.entries) me_is journals.0.own in
          let acts : sifted (is_act i) (logged_in (log ∷ rest)) ≡ log.entries =
          sifted-append (is_act i) log.entries (logged_in rest)
          ∙ ap (λ (l : List Entry). l ++ sifted (is_act i) (logged_in rest)) (all-kept i log.entries own)
          ∙ ap (λ (l : List Entry). log.entries ++ l) (acts-before (suc place) i rest here.1 journals.1 (omega (arith, this)))
          ∙ append-nil log.entries in
          subst (λ (k : ℕ). IsLogOf config i (get_or (log ∷ rest) k d) (logged_in (log ∷ rest))) first
          (record { journal = journals.0; config_is = same.0; me_is = me_is; acts = acts })
      | inr later ↦
          let next : suc (i - suc place) ≡ i - place = omega (arith, from, later) in
          let other : log.me ≡ i → ⊥ = λ me_is. later (sym me_is ∙ here.0) in
          let found = log-of config (suc place) i rest d here.1 journals.1 same.1 (omega (arith, from, later))
          (omega (arith, inside, next)) in
          let acts : sifted (is_act i) (logged_in (log ∷ rest)) ≡ (get_or rest (i - suc place) d).entries =
          sifted-append (is_act i) log.entries (logged_in rest)
          ∙ ap (λ (l : List Entry). l ++ sifted (is_act i) (logged_in rest)) (none-kept i log.me log.entries journals.0.own other)
          ∙ found.acts in
          subst (λ (k : ℕ). IsLogOf config i (get_or (log ∷ rest) k d) (logged_in (log ∷ rest))) next
          (record { journal = found.journal; config_is = found.config_is; me_is = found.me_is; acts = acts })
    ]

-- the same among all in the order of their numbers
pub log-sorted : (config : Config) (logs : List Log) (arrivals : List Arrival) (i : ℕ) (d : Log) → first_stranger 1 logs ≡ None
    → AreJournals logs
    → AreOfConfig config logs → length logs ≡ config.clients → IsClient config.clients i
    → IsLogOf config i (get_or logs (i - 1) d) (by_number (gathered logs arrivals))
log-sorted config logs arrivals i d none journals same counted client =
    let inside : i - 1 < length logs = omega (arith, counted, client.from_one, client.to_n) in
    let found = log-of config 1 i logs d none journals same client.from_one inside in
    let log : Log = get_or logs (i - 1) d in
    record {
      journal = found.journal;
      config_is = found.config_is;
      me_is = found.me_is;
      acts = sifted-by_number (is_act i) (gathered logs arrivals)
          ∙ ap by_number (sifted-append (is_act i) (logged_in logs) (map entry_of arrivals)
          ∙ ap (λ (l : List Entry). l ++ sifted (is_act i) (map entry_of arrivals)) found.acts
          ∙ ap (λ (l : List Entry). log.entries ++ l) (no-acts i arrivals)
          ∙ append-nil log.entries)
          ∙ by_number-rising 0 log.entries found.journal.rising;
    }

log-obeyed : (config : Config) (i : ℕ) (log : Log) (all : List Entry) → IsLogOf config i log all → ArePlacedFor config.clients all
    → Obeys config i (first_client config.clients i) (entries_of i all)
log-obeyed config i log all is placed =
    let by_config = subst (λ (c : Config). Obeys c log.me (first_client c.clients log.me) log.entries) is.config_is is.journal.obeyed in
    let by_client = subst (λ (k : ℕ). Obeys config k (first_client config.clients k) log.entries) is.me_is by_config in
    obeys-with config config.clients i (first_client config.clients i) all placed
    (subst (λ (l : List Entry). Obeys config i (first_client config.clients i) l) (sym is.acts) by_client)

log-replayed : (config : Config) (i : ℕ) (log : Log) (all : List Entry) → IsLogOf config i log all
    → member_of log ≡ member_after config i (entries_of i all)
log-replayed config i log all is =
    ap (λ (c : Config). member_after c log.me log.entries) is.config_is
    ∙ ap (λ (k : ℕ). member_after config k log.entries) is.me_is
    ∙ ap (member_after config i) (sym is.acts)
    ∙ ap (λ (st : Client). record { config = config; me = i; client = st })
    (sym (replayed-with config i (first_client config.clients i) all))

-- what is merged
pub merged-parts : (config : Config) (logs : List Log) (arrivals : List Arrival) (agents : List Member) (outboxes : List Outbox)
    → IsConfig config
    → length logs ≡ config.clients → AreOfConfig config logs → AreEachBelow (numbers_of (gathered logs arrivals))
    → first_stranger 1 logs ≡ None
    → AreJournals logs → agents ≡ map member_of logs → AreAllFed config.clients outboxes (by_number (gathered logs arrivals))
    → AreParts config agents outboxes (by_number (gathered logs arrivals))
merged-parts config logs arrivals agents outboxes range counted same numbers none journals agents_are fed =
    let all : List Entry = by_number (gathered logs arrivals) in
    let blank : Log = first_log config 0 in
    let log_at : (i : ℕ) → IsClient config.clients i → IsLogOf config i (get_or logs (i - 1) blank) all =
    λ i client. log-sorted config logs arrivals i blank none journals same counted client in
    let in_agents : (i : ℕ) → IsClient config.clients i → agent_in config (map member_of logs) i ≡ member_after config i
    (entries_of i all) =
    λ i client. get_or-map member_of logs (i - 1) blank (first_member config i) (omega (arith, counted, client.from_one, client.to_n))
    ∙ log-replayed config i (get_or logs (i - 1) blank) all (log_at i client) in
    let replayed : AreReplayed config (map member_of logs) all = record {
      counted = length-map logs member_of
          ∙ counted;
      each = in_agents;
    } in
    record {
      run = record {
        config_in_range = range;
        numbered = (by_number-counted numbers.count (gathered logs arrivals) numbers.each_once).numbered;
        of_clients = fed.of_clients;
        obeyed = λ i client. log-obeyed config i (get_or logs (i - 1) blank) all (log_at i client)
            (placed-gathered config logs arrivals journals same);
        fed = all-fed [] all fed.none_left;
      };
      replayed = subst (λ (l : List Member). AreReplayed config l all) (sym agents_are) replayed;
      filled = fed.filled;
    }

-- the table of all entries
pub table-is : (logs : List Log) (arrivals : List Arrival) (room behind table : List Entry)
    → AreEachBelow (numbers_of (gathered logs arrivals))
    → length room ≡ length (gathered logs arrivals) → behind ≡ placed room (map entry_of arrivals) → table ≡ placed behind (logged_in logs)
    → table ≡ by_number (gathered logs arrivals)
table-is logs arrivals room behind table numbers sized behind_is table_is =
    table_is ∙ ap (λ (l : List Entry). placed l (logged_in logs)) behind_is
    ∙ sym (placed-append room (logged_in logs) (map entry_of arrivals))
    ∙ placed-counted numbers.count room (gathered logs arrivals) numbers.each_once sized

pub arrivals-below : (logs : List Log) (arrivals : List Arrival) (m : ℕ) → AreEachBelow (numbers_of (gathered logs arrivals))
    → m ≡ length (gathered logs arrivals) → AreBelow m (map entry_of arrivals)
arrivals-below logs arrivals m numbers sized =
    subst (λ (k : ℕ). AreBelow k (map entry_of arrivals)) (sym sized)
    (below-append (length (gathered logs arrivals)) (logged_in logs) (map entry_of arrivals)
    (below-counted numbers.count (gathered logs arrivals) numbers.each_once)).1

pub logs-below : (logs : List Log) (arrivals : List Arrival) (room behind : List Entry)
    → AreEachBelow (numbers_of (gathered logs arrivals))
    → length room ≡ length (gathered logs arrivals) → behind ≡ placed room (map entry_of arrivals)
    → AreBelow (length behind) (logged_in logs)
logs-below logs arrivals room behind numbers sized behind_is =
    let same : length behind ≡ length (gathered logs arrivals) =
    ap (length {A = Entry}) behind_is ∙ length-placed room (map entry_of arrivals) ∙ sized in
    subst (λ (k : ℕ). AreBelow k (logged_in logs)) (sym same)
    (below-append (length (gathered logs arrivals)) (logged_in logs) (map entry_of arrivals)
    (below-counted numbers.count (gathered logs arrivals) numbers.each_once)).0

-- the answer that is due
refuses : (e : MergeError) (due : Result Run MergeError) → due ≡ Err e → MergeRefuses e due
refuses (merges.Client place client) due is = is
refuses (merges.Frame client index sent got) due is = is
refuses merges.OutOfMemory due is = tt

pub stranger-due : (config : Config) (logs : List Log) (arrivals : List Arrival) (e : MergeError) → first_stranger 1 logs ≡ Some e
    → MergeRefuses e (merged config logs arrivals)
unfolding merged
stranger-due config logs arrivals e stranger =
    let entries : List Entry = by_number (gathered logs arrivals) in
    refuses e (merged config logs arrivals)
    (ap (λ (o : Option MergeError). run_unless o (first_frame [] entries) (record { config = config; entries = entries })) stranger)

pub frame-due : (config : Config) (logs : List Log) (arrivals : List Arrival) (e : MergeError) → first_stranger 1 logs ≡ None
    → IsFirstFrame e (first_frame [] (by_number (gathered logs arrivals))) → MergeRefuses e (merged config logs arrivals)
unfolding merged
frame-due config logs arrivals (merges.Client place client) none frame = absurd frame
frame-due config logs arrivals (merges.Frame client index sent got) none frame =
    let entries : List Entry = by_number (gathered logs arrivals) in
    let run : Run = record { config = config; entries = entries } in
    ap (λ (o : Option MergeError). run_unless o (first_frame [] entries) run) none
    ∙ ap (λ (o : Option MergeError). run_unless None o run) frame
frame-due config logs arrivals merges.OutOfMemory none frame = tt

pub merge-due : (config : Config) (logs : List Log) (arrivals : List Arrival) → first_stranger 1 logs ≡ None
    → first_frame [] (by_number (gathered logs arrivals)) ≡ None
    → merged config logs arrivals ≡ Ok (record { config = config; entries = by_number (gathered logs arrivals) })
unfolding merged
merge-due config logs arrivals none fed =
    let entries : List Entry = by_number (gathered logs arrivals) in
    let run : Run = record { config = config; entries = entries } in
    ap (λ (o : Option MergeError). run_unless o (first_frame [] entries) run) none
    ∙ ap (λ (o : Option MergeError). run_unless None o run) fed

-- one journal after another
pub stranger-next : (place : ℕ) (log : Log) (rest : List Log) → log.me ≡ place
    → first_stranger place (log ∷ rest) ≡ first_stranger (suc place) rest
stranger-next place log rest same =
    ap (λ (b : Bool). cond b (first_stranger (suc place) rest) (Some (merges.Client place log.me))) (eq-eqb log.me place same)

pub stranger-here : (place : ℕ) (log : Log) (rest : List Log) → (log.me ≡ place → ⊥)
    → first_stranger place (log ∷ rest) ≡ Some (merges.Client place log.me)
stranger-here place log rest other =
    ap (λ (b : Bool). cond b (first_stranger (suc place) rest) (Some (merges.Client place log.me))) (ne_eqb log.me place other)

pub journals-last : (logs : List Log) (log : Log) → AreJournals logs → IsJournal log → AreJournals (logs ++ log ∷ [])
journals-last [] log front here = (here, tt)
journals-last (x ∷ logs) log front here = (front.0, journals-last logs log front.1 here)

-- a merged record has the entries of each journal
acts_of-sifted : (i : ℕ) (xs : List Entry) → acts_of i xs ≡ sifted (is_act i) xs
acts_of-sifted i [] = refl
acts_of-sifted i (x ∷ xs) = ap (λ (l : List Entry). cond (is_act i x) (x ∷ l) l) (acts_of-sifted i xs)

unless-parts : (stranger frame : Option MergeError) (made run : Run) → run_unless stranger frame made ≡ Ok run
    → (stranger ≡ None) × (made ≡ run)
unless-parts None None made run is = (refl, cc)
unless-parts None (Some frame) made run is = absurd (cc)
unless-parts (Some stranger) frame made run is = absurd (cc)

merged-is : (config : Config) (logs : List Log) (arrivals : List Arrival) (run : Run) → merged config logs arrivals ≡ Ok run
    → (first_stranger 1 logs ≡ None) × (run.entries ≡ by_number (gathered logs arrivals))
unfolding merged
merged-is config logs arrivals run is =
    let entries : List Entry = by_number (gathered logs arrivals) in
    let parts = unless-parts (first_stranger 1 logs) (first_frame [] entries) (record { config = config; entries = entries }) run is in
    (parts.0, sym (ap (λ (r : Run). r.entries) parts.1))

pub merged_has_journals : (config : Config) (logs : List Log) (arrivals : List Arrival) (run : Run) (i : ℕ) (d : Log)
    → AreForAll config logs → merged config logs arrivals ≡ Ok run → IsClient config.clients i
    → acts_of i run.entries ≡ (get_or logs (i - 1) d).entries
merged_has_journals config logs arrivals run i d all is client =
    let parts = merged-is config logs arrivals run is in
    let log = log-sorted config logs arrivals i d parts.0 all.each all.one_config all.counted client in
    ap (acts_of i) parts.1 ∙ acts_of-sifted i (by_number (gathered logs arrivals)) ∙ log.acts
