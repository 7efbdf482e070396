-- Whole runs: where no reply departs, all stay in step from the first entry to the last.
use Rattle.std.proofs.Common.{◌≡◌, ◌+◌, ◌-◌, ◌≤◌, ◌<◌, ℕ, suc, Bool, true, false, cond, List, [], ◌∷◌, ◌++◌, length, option_to_list, Option, Some, None, refl, sym, ap, ◌∙◌, subst, inl, inr, arith, append_assoc, length-append}
use Rattle.std.specs.Prelude.{◌⊎◌, IsSomeAnd, if◌then◌else◌, option_map, slice_get}
use Rattle.std.proofs.lemmas.Bool.{eq-eqb}
use Rattle.std.proofs.lemmas.List.{append-nil, get_or-replicate}
use Rattle.std.proofs.lemmas.Option.{same_Some}
use Rattle.faust_types.specs.Clients.{IsClient, IsClientCount}
use Rattle.faust_types.specs.Versions.{Vector, initial, timestamp_at}
use Rattle.faust_types.specs.Messages.{unmade}
use Rattle.faust_types.specs.declared.config.Config.{Config}
use Rattle.faust_types.specs.declared.operation.Notice.{Notice}
use Rattle.faust_types.specs.declared.message.Known.{Known}
use Rattle.faust_lists.specs.Lists.{IsTail}
use Rattle.faust_lists.specs.Walks.{IsVersionOf}
use Rattle.faust_lists.proofs.Tails.{tail-refl, tail-trans}
use Rattle.faust_names.specs.ForkViews.{listed}
use Rattle.faust_audit.specs.Findings.{order_among}
use Rattle.faust_lists.proofs.Versions.{IsVersionOf-initial}
use Rattle.faust_honest.specs.World.{World}
use Rattle.faust_honest.proofs.First.{first-honest}
use Rattle.faust_agent.specs.State.{completed_count, first_client, version_at}
use Rattle.faust_agent.specs.declared.client.Client.{Client}
use Rattle.faust_agent.specs.declared.deed.Order.{Order}
use Rattle.faust_agent.proofs.Kept.{kept-first}
use Rattle.faust_record.specs.Entries.{IsStep, Obeys, replay, replayed, state_at}
use Rattle.faust_record.specs.Operations.{Started, order_in, started_among, started_in}
use Rattle.faust_record.specs.Runs.{AreFed, AreNumbered, AreOfClients, IsFed, IsRun, entries_of}
use Rattle.faust_record.specs.declared.entry.Entry.{Entry}
use Rattle.faust_record.proofs.Own.{entries_of-append, entries_of-own}
use Rattle.faust_record.proofs.Runs.{run-front}
use Rattle.faust_audit.specs.Departure.{Line, departs, first_departure, first_departure_from, first_line, line_after, line_of}
use Rattle.faust_audit.proofs.Following.{line-append}
use Rattle.faust_audit.proofs.Gathering.{started-append}
use Rattle.faust_joined.specs.Joined.{AreAllTold, IsJoined, IsOrderOf, is_named_in, kind_of_order, order_at, order_of_started, register_of_order, value_of_order, world_of}
use Rattle.faust_joined.specs.Promised.{ArePeersMade, AreWellGiven, IsPeerMade, IsWellGiven}
use Rattle.faust_joined.proofs.Arriving.{next-queued}
use Rattle.faust_joined.proofs.Telling.{told-first, told-next}
use Rattle.faust_joined.proofs.Joining.{IsNextJoined, next-joined, IsNext}

-- before the first entry
first-version : (n k j : ℕ) → IsClient n j → version_at (first_client n k) j ≡ initial n
first-version n k j client =
    ap (λ (known : Known). known.version) (get_or-replicate n (j - 1) (unmade n) (unmade 0) (omega (arith, client.from_one, client.to_n)))

pub first-joined : (config : Config) (world : World) → IsClientCount config.clients → IsJoined config world []
first-joined config world sized =
    let n = config.clients in
    let own : (k : ℕ) → IsClient n k → completed_count k (first_client n k) ≡ 0 = λ k client.
    ap (λ (v : Vector). timestamp_at v k) (first-version n k k client)
    ∙ get_or-replicate n (k - 1) 0 0 (omega (arith, client.from_one, client.to_n)) in
    record {
      arrived = [];
      handled = [];
      honest = first-honest n world sized;
      each = λ k client. record {
        queue = [];
        queued = record { gone = []; sent_is = refl; counted = refl };
        in_step = record {
          in_range = kept-first config k sized client;
          no_notice = refl;
          has_arrived = omega (arith, own k client);
          own = subst (λ (v : Vector). IsVersionOf n v []) (sym (first-version n k k client)) (IsVersionOf-initial n);
          within = λ j within. record {
            history = [];
            is_version = subst (λ (v : Vector). IsVersionOf n v []) (sym (first-version n k j within)) (IsVersionOf-initial n);
            within = refl;
          };
          waiting = sym (own k client);
          last = refl;
          all_committed = 0;
          held_back = sym (own k client);
          leads = (refl, refl);
          given_each = refl;
          handed_each = sym (own k client);
          due = λ lt. absurd (omega (arith, lt));
        };
      };
      quiet = λ message range has. absurd has;
      given = tt;
    }

-- the last entry of a run
pub last-client : (n : ℕ) (xs : List Entry) (e : Entry) → AreOfClients n (xs ++ e ∷ []) → IsClient n e.client
last-client n [] e all = all.0
last-client n (x ∷ xs) e all = last-client n xs e all.1

last-fed : (before xs : List Entry) (e : Entry) → AreFed before (xs ++ e ∷ []) → IsFed (before ++ xs) e
last-fed before [] e all = subst (λ (l : List Entry). IsFed l e) (sym (append-nil before)) all.0
last-fed before (x ∷ xs) e all =
    subst (λ (l : List Entry). IsFed l e) (append_assoc before (x ∷ []) xs) (last-fed (before ++ x ∷ []) xs e all.1)

last-step : (config : Config) (i : ℕ) (st : Client) (xs : List Entry) (e : Entry) → Obeys config i st (xs ++ e ∷ [])
    → IsStep config i (replayed config i st xs) e
last-step config i st [] e all = all.0
last-step config i st (x ∷ xs) e all = last-step config i (state_at config i st x.input) xs e all.1

step-of : (config : Config) (front : List Entry) (e : Entry) → IsRun config (front ++ e ∷ []) → IsClient config.clients e.client
    → IsStep config e.client (replay config e.client (entries_of e.client front)) e
step-of config front e run client =
    last-step config e.client (first_client config.clients e.client) (entries_of e.client front) e
    (subst (λ (l : List Entry). Obeys config e.client (first_client config.clients e.client) l) (entries_of-own e.client front e refl)
    (run.obeyed e.client client))

-- operations of the run are numbered in the order in which they begin
started-here : (front rest : List Entry) (e : Entry) (s : Started) → started_in e ≡ Some s
    → slice_get (started_among (entries_of e.client (front ++ e ∷ rest))) (length (started_among (entries_of e.client front))) ≡ Some s
started-here front rest e s is =
    let i : ℕ = e.client in
    let own : entries_of i (front ++ e ∷ rest) ≡ entries_of i front ++ e ∷ entries_of i rest =
    entries_of-append i front (e ∷ rest)
    ∙ ap (λ (b : Bool). entries_of i front ++ cond b (e ∷ entries_of i rest) (entries_of i rest)) (eq-eqb i i refl) in
    ap (λ (l : List Entry). slice_get (started_among l) (length (started_among (entries_of i front)))) own
    ∙ ap (λ (l : List Started). slice_get l (length (started_among (entries_of i front))))
    (started-append (entries_of i front) (e ∷ entries_of i rest))
    ∙ next-queued (started_among (entries_of i front)) (started_among (e ∷ entries_of i rest))
    ∙ ap (λ (o : Option Started). slice_get (option_to_list o ++ started_among (entries_of i rest)) 0) is

pub ordered-in : (config : Config) (front rest : List Entry) (e : Entry) (order : Order) → order_in e.client e.input e.outcome ≡ Some order
    → IsOrderOf (world_of config (front ++ e ∷ rest)) e.client (suc (length (started_among (entries_of e.client front)))) order
ordered-in config front rest e order is =
    let i : ℕ = e.client in
    let all : List Entry = front ++ e ∷ rest in
    let b : ℕ = length (started_among (entries_of i front)) in
    let s : Started = record { order = order; number = e.number } in
    let back : suc b - 1 ≡ b = omega arith in
    let started : started_in e ≡ Some s =
    ap (λ (o : Option Order). option_map (λ (x : Order). let z : Started = record { order = x; number = e.number } in z) o) is in
    let found : order_at all i (suc b) ≡ Some order =
    ap (λ (t : ℕ). option_map order_of_started (slice_get (started_among (entries_of i all)) t)) back
    ∙ ap (option_map order_of_started) (started-here front rest e s started) in
    record {
      same_kind = ap (λ (o : Option Order). kind_of_order o) found;
      same_register = ap (λ (o : Option Order). register_of_order o) found;
      same_value = ap (λ (o : Option Order). value_of_order o) found;
    }

-- no entry departs
pub none-here : (b : Bool) (q : ℕ) (rest : Option ℕ) → (if b then Some q else rest) ≡ None → (b ≡ false) × (rest ≡ None)
none-here true q rest none = absurd cc
none-here false q rest none = (refl, none)

first-arrived : (config : Config) (world : World) (sized : IsClientCount config.clients) → (first-joined config world sized).arrived ≡ []
unfolding first-joined
first-arrived config world sized = refl

-- What was told behind a front, and behind all of the entries.
pub record IsRunJoined (config : Config) (world : World) (front rest : List Entry) (arrived : List ℕ) : Type 0 where
  pub joined : IsJoined config world (front ++ rest)
  pub goes_on : IsTail arrived joined.arrived
  pub listed_on : (all : List Entry) → order_among config all front ≡ listed (is_named_in world all) arrived
      → order_among config all (front ++ rest) ≡ listed (is_named_in world all) joined.arrived
  pub told_on : AreAllTold config world arrived front → AreAllTold config world joined.arrived (front ++ rest)
  pub well : AreWellGiven rest

-- the same entries, put together in another way
same-run : (config : Config) (world : World) (front rest : List Entry) (arrived : List ℕ) (whole : List Entry) → AreWellGiven rest
    → whole ≡ front ++ rest
    → (h : IsJoined config world whole) → IsTail arrived h.arrived
    → ((all : List Entry) → order_among config all front ≡ listed (is_named_in world all) arrived
    → order_among config all whole ≡ listed (is_named_in world all) h.arrived)
    → (AreAllTold config world arrived front → AreAllTold config world h.arrived whole)
    → IsRunJoined config world front rest arrived
same-run config world front rest arrived whole well same h on list tell =
    let Whole : List Entry → Type 0 = λ (l : List Entry). (joined : IsJoined config world l) × (IsTail arrived joined.arrived)
    × ((all : List Entry) → order_among config all front ≡ listed (is_named_in world all) arrived
    → order_among config all l ≡ listed (is_named_in world all) joined.arrived)
    × (AreAllTold config world arrived front → AreAllTold config world joined.arrived l) in
    let moved : Whole (front ++ rest) = subst Whole same (h, on, list, tell) in
    record { joined = moved.0; goes_on = moved.1; listed_on = moved.2; told_on = moved.3; well = well }

-- the entry behind a front of a run
pub next-of : (config : Config) (all front rest : List Entry) (e : Entry) → IsRun config all → front ++ e ∷ rest ≡ all
    → IsPeerMade config front e → departs config (line_of config front) e ≡ false
    → IsNext config (world_of config all) front e
next-of config all front rest e run whole made stays =
    let split : (front ++ e ∷ []) ++ rest ≡ front ++ e ∷ rest = append_assoc front (e ∷ []) rest in
    let one : IsRun config (front ++ e ∷ []) =
    run-front config (front ++ e ∷ []) rest (subst (IsRun config) (sym (split ∙ whole)) run) in
    let client : IsClient config.clients e.client = last-client config.clients front e one.of_clients in
    record {
      sized = run.config_in_range.clients_count;
      same_key = refl;
      client = client;
      step = step-of config front e one client;
      fed = last-fed [] front e one.fed;
      peer_made = made;
      stays = stays;
      ordered = λ order is. subst (λ (l : List Entry). IsOrderOf (world_of config l) e.client
          (suc (length (started_among (entries_of e.client front)))) order) whole (ordered-in config front rest e order is);
    }

-- along the entries behind a front of a run, behind which more may come
pub joined-from : (config : Config) (all front rest more : List Entry) → IsRun config all → (front ++ rest) ++ more ≡ all
    → ArePeersMade config front rest → first_departure_from config (line_of config front) rest ≡ None
    → (h : IsJoined config (world_of config all) front) → IsRunJoined config (world_of config all) front rest h.arrived
joined-from config all front [] more run whole made none h =
    same-run config (world_of config all) front [] h.arrived front tt (sym (append-nil front)) h (tail-refl h.arrived)
    (λ every so_far. so_far) (λ told. told)
joined-from config all front (e ∷ rest) more run whole made none h =
    let world : World = world_of config all in
    let stays = none-here (departs config (line_of config front) e) e.number
    (first_departure_from config (line_after config (line_of config front) e) rest) none in
    let split : (front ++ e ∷ []) ++ rest ≡ front ++ e ∷ rest = append_assoc front (e ∷ []) rest in
    let next : IsNext config world front e =
    next-of config all front (rest ++ more) e run (sym (append_assoc front (e ∷ rest) more) ∙ whole) made.0 stays.0 in
    let grown : IsNextJoined config world front e h.arrived = next-joined config world front e next h in
    let now : IsJoined config world (front ++ e ∷ []) = grown.grown.joined in
    let later : IsRunJoined config world (front ++ e ∷ []) rest now.arrived =
    joined-from config all (front ++ e ∷ []) rest more run (ap (λ (l : List Entry). l ++ more) split ∙ whole) made.1
    (ap (λ (l : Line). first_departure_from config l rest) (line-append config (first_line config.clients) front e) ∙ stays.1) now in
    same-run config world front (e ∷ rest) h.arrived ((front ++ e ∷ []) ++ rest) (grown.well, later.well) split later.joined
    (tail-trans h.arrived now.arrived later.joined.arrived grown.grown.goes_on later.goes_on)
    (λ every so_far. later.listed_on every (grown.grown.listed_on every so_far))
    (λ told. later.told_on (told-next config world front e now.arrived next h grown.grown.goes_on told))

-- What is known behind a front of a run.
pub record IsKnown (config : Config) (world : World) (front : List Entry) : Type 0 where
  pub joined : IsJoined config world front
  pub told : AreAllTold config world joined.arrived front
  pub ordered : (all : List Entry) → order_among config all front ≡ listed (is_named_in world all) joined.arrived
  pub well : AreWellGiven front

pub known-front : (config : Config) (all front more : List Entry) → IsRun config all → front ++ more ≡ all → ArePeersMade config [] front
    → first_departure config front ≡ None → IsKnown config (world_of config all) front
known-front config all front more run whole made none =
    let world : World = world_of config all in
    let first : IsJoined config world [] = first-joined config world run.config_in_range.clients_count in
    let empty : first.arrived ≡ [] = first-arrived config world run.config_in_range.clients_count in
    let r : IsRunJoined config world [] front first.arrived = joined-from config all [] front more run whole made none first in
    record {
      joined = r.joined;
      told = r.told_on (subst (λ (w : List ℕ). AreAllTold config world w []) (sym empty) (told-first config world));
      ordered = λ every. r.listed_on every (ap (listed (is_named_in world every)) (sym empty));
      well = r.well;
    }

-- ---- notices

well-last : (xs : List Entry) (e : Entry) → AreWellGiven (xs ++ e ∷ []) → IsWellGiven e
well-last [] e all = all.0
well-last (x ∷ xs) e all = well-last xs e all.1

pub made-front : (config : Config) (before xs ys : List Entry) → ArePeersMade config before (xs ++ ys) → ArePeersMade config before xs
made-front config before [] ys all = tt
made-front config before (x ∷ xs) ys all = (all.0, made-front config (before ++ x ∷ []) xs ys all.1)

departs-front : (b : Bool) (number q : ℕ) (front whole : Option ℕ) → (if b then Some number else front) ≡ Some q
    → (front ≡ Some q → whole ≡ Some q) → (if b then Some number else whole) ≡ Some q
departs-front true number q front whole found later = found
departs-front false number q front whole found later = later found

number-below : (b : Bool) (number p q more : ℕ) (rest : Option ℕ) → number ≡ p → (if b then Some number else rest) ≡ Some q
    → (rest ≡ Some q → q < suc p + more) → q < p + suc more
number-below true number p q more rest is found later = let same : number ≡ q = same_Some number q found in omega (arith, is, same)
number-below false number p q more rest is found later = omega (arith, later found)

-- the first departure of a front is that of the whole, and its number is that of one of its entries
departure-front : (config : Config) (line : Line) (xs ys : List Entry) (q : ℕ) → first_departure_from config line xs ≡ Some q
    → first_departure_from config line (xs ++ ys) ≡ Some q
departure-front config line [] ys q found = absurd cc
departure-front config line (x ∷ xs) ys q found =
    departs-front (departs config line x) x.number q (first_departure_from config (line_after config line x) xs)
    (first_departure_from config (line_after config line x) (xs ++ ys)) found
    (λ later. departure-front config (line_after config line x) xs ys q later)

numbered-before : (config : Config) (line : Line) (p : ℕ) (xs : List Entry) (q : ℕ) → AreNumbered p xs
    → first_departure_from config line xs ≡ Some q → q < p + length xs
numbered-before config line p [] q numbered found = absurd cc
numbered-before config line p (x ∷ xs) q numbered found =
    number-below (departs config line x) x.number p q (length xs)
    (first_departure_from config (line_after config line x) xs) numbered.0 found
    (λ later. numbered-before config (line_after config line x) (suc p) xs q numbered.1 later)

last-number : (p : ℕ) (xs : List Entry) (e : Entry) → AreNumbered p (xs ++ e ∷ []) → e.number ≡ p + length xs
last-number p [] e all = omega (arith, all.0)
last-number p (x ∷ xs) e all = omega (arith, last-number (suc p) xs e all.1)

either-none : (o : Option ℕ) → (o ≡ None) ⊎ ((q : ℕ) × (o ≡ Some q))
either-none None = inl refl
either-none (Some q) = inr (q, refl)

pub notice-after : (config : Config) (entries front rest : List Entry) (e : Entry) (notice : Notice) → IsRun config entries
    → ArePeersMade config [] entries → entries ≡ front ++ e ∷ rest → e.outcome.notice ≡ Some notice
    → IsSomeAnd (first_departure config entries) (λ (q : ℕ). q ≤ e.number)
notice-after config entries front rest e notice run made whole given =
    let split : entries ≡ (front ++ e ∷ []) ++ rest = whole ∙ sym (append_assoc front (e ∷ []) rest) in
    let one : IsRun config (front ++ e ∷ []) = run-front config (front ++ e ∷ []) rest (subst (IsRun config) split run) in
    let made_one : ArePeersMade config [] (front ++ e ∷ []) =
    made-front config [] (front ++ e ∷ []) rest (subst (ArePeersMade config []) split made) in
    elim (either-none (first_departure config (front ++ e ∷ []))) [
      | inl none ↦
          let well : IsWellGiven e = well-last front e
          (known-front config (front ++ e ∷ []) (front ++ e ∷ []) [] one (append-nil (front ++ e ∷ [])) made_one none).well in
          let never : Some notice ≡ None = sym given ∙ well.no_notice in
          absurd (cc never)
      | inr found ↦
          let q : ℕ = found.0 in
          let at : first_departure config entries ≡ Some q =
          ap (first_departure config) split ∙ departure-front config (first_line config.clients) (front ++ e ∷ []) rest q found.1 in
          let below : q < 0 + length (front ++ e ∷ []) =
          numbered-before config (first_line config.clients) 0 (front ++ e ∷ []) q one.numbered found.1 in
          let number : e.number ≡ 0 + length front = last-number 0 front e one.numbered in
          let longer : length (front ++ e ∷ []) ≡ length front + 1 = length-append front (e ∷ []) in
          subst (λ (o : Option ℕ). IsSomeAnd o (λ (x : ℕ). x ≤ e.number)) (sym at) (omega (arith, below, number, longer))
    ]
