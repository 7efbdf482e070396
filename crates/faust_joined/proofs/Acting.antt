-- An entry that is no arrival: its client stays in step, and all that it says is quiet.
use Rattle.std.proofs.Common.{◌≡◌, ◌+◌, ℕ, suc, Bool, true, List, [], ◌∷◌, ◌++◌, length, option_to_list, Option, Some, None, refl, sym, ap, ◌∙◌, subst, inl, inr, arith, append-nil}
use Rattle.std.specs.Prelude.{IsSome, if◌then◌else◌, slice_get, option_and_then}
use Rattle.std.proofs.lemmas.Bool.{cases_eq, false≢true}
use Rattle.faust_types.specs.Clients.{IsClient, IsClientCount}
use Rattle.faust_types.specs.declared.config.Config.{Config}
use Rattle.faust_types.specs.declared.message.Message.{Message}
use Rattle.faust_types.specs.declared.message.PeerMessage.{PeerMessage}
use Rattle.faust_types.specs.declared.message.Reply.{Reply}
use Rattle.faust_types.specs.Ranges.{IsPeerMessageFor}
use Rattle.faust_hash.proofs.Lists.{is_same_tells}
use Rattle.faust_tags.specs.Bodies.{peer_body}
use Rattle.faust_server.specs.Rows.{State}
use Rattle.faust_wire.specs.Grammar.{reply_bytes}
use Rattle.faust_wire.proofs.Messages.{reply-read}
use Rattle.faust_lists.specs.Lists.{count}
use Rattle.faust_lists.specs.Names.{Has}
use Rattle.faust_lists.proofs.Tails.{tail-refl}
use Rattle.faust_honest.specs.World.{World}
use Rattle.faust_honest.specs.Honest.{IsHonest}
use Rattle.faust_agent.specs.State.{is_idle}
use Rattle.faust_agent.specs.Deeds.{Sent, as_reply, asked, replied, reply_in}
use Rattle.faust_agent.specs.InRange.{IsDeedFor, IsOrderFor}
use Rattle.faust_agent.specs.Outcomes.{outcome_of}
use Rattle.faust_agent.specs.Table.{after, answer_of, began_of, deed_of, dummy_of, is_dummy_due, notice_of, sent_of}
use Rattle.faust_agent.specs.Tells.{IsEventFor}
use Rattle.faust_agent.specs.declared.client.Client.{Client}
use Rattle.faust_agent.specs.declared.deed.Order.{Order}
use Rattle.faust_agent.specs.declared.deed.Deed.{Deed}
use Rattle.faust_agent.specs.declared.deed.Deed.TheVariants as deeds
use Rattle.faust_agent.proofs.Reasons.{deed-in_range, peer-in_range, reply-in_range}
use Rattle.faust_record.specs.Entries.{IsStep, MayCome, deed_at, event_of, outcome_at, replay, state_at}
use Rattle.faust_record.specs.Made.{bodies_of, made_behind, made_bodies}
use Rattle.faust_record.specs.Operations.{started_among, started_in}
use Rattle.faust_record.specs.Runs.{arriving, entries_of}
use Rattle.faust_record.specs.declared.entry.Input.{Input}
use Rattle.faust_record.specs.declared.entry.Input.TheVariants as inputs
use Rattle.faust_record.specs.declared.entry.Entry.{Entry}
use Rattle.faust_record.proofs.Own.{entries_of-own}
use Rattle.faust_audit.specs.Departure.{Given, Line, given_to, is_due, line_of, times_of}
use Rattle.faust_audit.specs.Findings.{name_in_order, order_among, submit_in}
use Rattle.faust_audit.proofs.Gathering.{order-more}
use Rattle.faust_joined.specs.Joined.{AreGivenOf, IsGrown, AreQuiet, IsClientJoined, IsInStep, IsJoined, IsOrderOf, IsQuiet}
use Rattle.faust_joined.proofs.Beginning.{begun-in_step}
use Rattle.faust_joined.proofs.Completing.{IsCompleting, completed-in_step, completing}
use Rattle.faust_joined.proofs.Entering.{joined-one, joined-other}
use Rattle.faust_joined.proofs.Saying.{IsTaken, deed-quiet, has-either, made-append}
use Rattle.faust_joined.proofs.Ticking.{ticked-in_step}

-- what comes to a client of a run is in range
pub event-in_range : (config : Config) (k : ℕ) (st : Client) (input : Input) → IsClientCount config.clients → IsClient config.clients k
    → MayCome config k st input → IsEventFor config.clients (event_of config k input)
event-in_range config k st (inputs.Write value) sized client may =
    record { register_in_range = client; value_in_range = may.value_in_range }
event-in_range config k st (inputs.Read register) sized client may =
    record { register_in_range = may.register_in_range; value_in_range = refl }
event-in_range config k st (inputs.Reply bytes) sized client may = reply-in_range config bytes sized may.bytes_each
event-in_range config k st (inputs.Peer bytes) sized client may = peer-in_range config bytes sized may.bytes_each
event-in_range config k st (inputs.Tick moment) sized client may = tt
event-in_range config k st (inputs.Arrive message) sized client may = tt

-- what an entry gives is what its client's deed gives
pub notice-given : (config : Config) (k : ℕ) (st : Client) (input : Input)
    → (outcome_at config k st input).notice ≡ notice_of (deed_at config k st input)
unfolding outcome_at outcome_of
notice-given config k st input = refl

pub answer-given : (config : Config) (k : ℕ) (st : Client) (input : Input)
    → (outcome_at config k st input).answer ≡ answer_of (deed_at config k st input)
unfolding outcome_at outcome_of
answer-given config k st input = refl

pub began-given : (config : Config) (k : ℕ) (st : Client) (input : Input)
    → (outcome_at config k st input).began ≡ began_of config k st (deed_at config k st input)
unfolding outcome_at outcome_of
began-given config k st input = refl

-- A deed by which a client stays in step, and how many operations begin.
pub record IsDone (config : Config) (world : World) (arrived : List ℕ) (committed begun more k : ℕ) (st : Client) (queue : List Sent)
    (given : List Reply) (handed : ℕ) (deed : Deed) : Type 0 where
  pub in_step : IsInStep config world arrived committed (begun + more) k (after config k st deed)
      (queue ++ option_to_list (sent_of config k st deed)) given handed
  pub unbroken : notice_of deed ≡ None

-- Begin
pub asked-done : (config : Config) (world : World) (arrived : List ℕ) (committed begun k : ℕ) (st : Client) (queue : List Sent)
    (given : List Reply) (handed : ℕ) (order : Order) → world.key ≡ config.key → IsClient config.clients k
    → IsInStep config world arrived committed begun k st queue given handed → is_idle k st ≡ true → IsOrderFor config.clients order
    → IsOrderOf world k (suc begun) order
    → IsDone config world arrived committed begun 1 k st queue given handed (deed_of config k st (asked order))
unfolding deed_of
asked-done config world arrived committed begun k st queue given handed order keys client h idle range is =
    let Done : Deed → Type 0 = IsDone config world arrived committed begun 1 k st queue given handed in
    let one : suc begun ≡ begun + 1 = omega arith in
    subst (λ (b : Bool). Done (if b then deeds.Begins order else deeds.Ignores)) (sym idle) (record {
      in_step = subst (λ (b : ℕ). IsInStep config world arrived committed b k (after config k st (deeds.Begins order))
          (queue ++ option_to_list (sent_of config k st (deeds.Begins order))) given handed) one
          (begun-in_step config world arrived committed begun k st queue given handed order keys client h
          (record { idle = idle; order_in_range = range }) is);
      unbroken = refl;
    })

no-more : (config : Config) (world : World) (arrived : List ℕ) (committed begun k : ℕ) (st : Client) (queue : List Sent)
    (given : List Reply) (handed : ℕ) → IsInStep config world arrived committed begun k st queue given handed
    → IsInStep config world arrived committed (begun + 0) k st queue given handed
no-more config world arrived committed begun k st queue given handed h =
    let none : begun ≡ begun + 0 = omega arith in
    subst (λ (b : ℕ). IsInStep config world arrived committed b k st queue given handed) none h

-- Reply
pub due-reply : (wire : ℕ) (bytes : List ℕ) (due : Option Reply) → is_due wire bytes due ≡ true
    → (reply : Reply) × (due ≡ Some reply) × (bytes ≡ reply_bytes wire reply)
due-reply wire bytes None is = absurd (false≢true is)
due-reply wire bytes (Some reply) is = (reply, refl, (is_same_tells bytes (reply_bytes wire reply)).0 is)

pub record IsAnswered (config : Config) (world : World) (arrived : List ℕ) (committed begun k : ℕ) (st : Client) (queue : List Sent)
    (given : List Reply) (handed : ℕ) (deed : Deed) : Type 0 where
  pub done : IsDone config world arrived committed begun 0 k st queue given (suc handed) deed
  pub answers : IsSome (answer_of deed)

pub replied-done : (config : Config) (world : World) (arrived : List ℕ) (committed begun k : ℕ) (st : Client) (queue : List Sent)
    (given : List Reply) (handed : ℕ) (bytes : List ℕ) → world.key ≡ config.key → IsClientCount config.clients → IsClient config.clients k
    → IsInStep config world arrived committed begun k st queue given handed
    → is_due config.wire bytes (slice_get given handed) ≡ true
    → IsAnswered config world arrived committed begun k st queue given handed (deed_of config k st (replied (reply_in config bytes)))
replied-done config world arrived committed begun k st queue given handed bytes keys sized client h due =
    let found = due-reply config.wire bytes (slice_get given handed) due in
    let reply : Reply = found.0 in
    let completes : IsCompleting config world arrived begun k st reply =
    completing config world arrived committed begun k st queue given handed reply keys h found.1 in
    let read : reply_in config bytes ≡ Some reply =
    ap (reply_in config) found.2
    ∙ ap (λ (m : Option Message). as_reply m) (reply-read config.wire config.clients reply sized completes.reply_to.in_range) in
    let deed_is : deed_of config k st (replied (reply_in config bytes)) ≡ deeds.Completes (record { op = completes.op; judged = _ }) =
    ap (λ (r : Option Reply). deed_of config k st (replied r)) read ∙ completes.deed in
    let stepped = completed-in_step config world arrived committed begun k st queue given handed reply keys client h completes in
    subst (IsAnswered config world arrived committed begun k st queue given handed) (sym deed_is) (record {
      done = record {
        in_step = no-more config world arrived committed begun k _ _ given (suc handed) stepped;
        unbroken = refl;
      };
      answers = refl;
    })

-- Tick
pub ticked-done : (config : Config) (world : World) (arrived : List ℕ) (committed begun k m : ℕ) (st : Client) (queue : List Sent)
    (given : List Reply) (handed : ℕ) → world.key ≡ config.key → IsClient config.clients k
    → IsInStep config world arrived committed begun k st queue given handed
    → (is_dummy_due config k st m ≡ true → IsOrderOf world k (suc begun) (dummy_of st))
    → IsDone config world arrived committed begun (if is_dummy_due config k st m then 1 else 0) k st queue given handed (deeds.Ticks m)
ticked-done config world arrived committed begun k m st queue given handed keys client h is =
    record { in_step = ticked-in_step config world arrived committed begun k m st queue given handed keys client h is; unbroken = refl }

pub taken-done : (config : Config) (world : World) (arrived : List ℕ) (committed begun k : ℕ) (st : Client) (queue : List Sent)
    (given : List Reply) (handed : ℕ) (deed : Deed) → IsTaken config world arrived committed begun k st queue given handed deed
    → IsDone config world arrived committed begun 0 k st queue given handed deed
taken-done config world arrived committed begun k st queue given handed deed taken = record {
  in_step = no-more config world arrived committed begun k _ _ given handed taken.in_step;
  unbroken = taken.unbroken;
}

-- what an entry makes is quiet
pub quiet-one : (config : Config) (front : List Entry) (e : Entry) (arrived : List ℕ) (deed : Deed) → IsClient config.clients e.client
    → deed_at config e.client (replay config e.client (entries_of e.client front)) e.input ≡ deed
    → AreQuiet config.clients arrived (made_behind config [] front)
    → ((message : PeerMessage) → IsPeerMessageFor config.clients message
    → Has (bodies_of config e.client (replay config e.client (entries_of e.client front)) deed) (peer_body message)
    → IsQuiet config.clients arrived message.peer)
    → AreQuiet config.clients arrived (made_behind config [] (front ++ e ∷ []))
unfolding made_bodies
quiet-one config front e arrived deed client deed_is quiet more message range has =
    let st : Client = replay config e.client (entries_of e.client front) in
    elim (has-either (made_behind config [] front) (made_bodies config front e) (peer_body message)
    (subst (λ (l : List (List ℕ)). Has l (peer_body message)) (made-append config [] front e) has)) [
      | inl before ↦ quiet message range before
      | inr now ↦ more message range (subst (λ (d : Deed). Has (bodies_of config e.client st d) (peer_body message)) deed_is now)
    ]

-- the order of arrival has no name for it
pub order-same : (config : Config) (all front : List Entry) (e : Entry) → arriving e.input ≡ None
    → order_among config all (front ++ e ∷ []) ≡ order_among config all front
order-same config all front e act =
    order-more config all front e
    ∙ ap (λ (o : Option (List ℕ)). order_among config all front
    ++ option_to_list (option_and_then (name_in_order all e.client) (option_and_then (submit_in config) o))) act
    ∙ append-nil (order_among config all front)

-- an entry that is no arrival, by what its client does
pub acted-joined : (config : Config) (world : World) (front : List Entry) (e : Entry) (more : ℕ) → IsClientCount config.clients
    → (client : IsClient config.clients e.client)
    → IsStep config e.client (replay config e.client (entries_of e.client front)) e
    → arriving e.input ≡ None → (h : IsJoined config world front)
    → (line : Line) → line_of config (front ++ e ∷ []) ≡ line → line.server ≡ (line_of config front).server
    → line.given ≡ (line_of config front).given
    → ((k : ℕ) → (e.client ≡ k → ⊥) → times_of k line.handed ≡ times_of k (line_of config front).handed)
    → length (option_to_list (started_in e)) ≡ more
    → IsDone config world h.arrived (count e.client h.handled) (length (started_among (entries_of e.client front))) more e.client
    (replay config e.client (entries_of e.client front)) (h.each e.client client).queue
    (given_to e.client (line_of config front).given) (times_of e.client line.handed)
    (deed_at config e.client (replay config e.client (entries_of e.client front)) e.input)
    → IsGrown config world front e h.arrived
unfolding state_at
acted-joined config world front e more sized client step act h line line_is server given others begun done =
    let n = config.clients in
    let i : ℕ = e.client in
    let own : List Entry = entries_of i front in
    let st : Client = replay config i own in
    let deed : Deed = deed_at config i st e.input in
    let before : Line = line_of config front in
    let mine : IsClientJoined config world h.arrived (count i h.handled) i own (given_to i before.given) (times_of i before.handed) =
    h.each i client in
    let fits : IsDeedFor config i st deed =
    deed-in_range config i st (event_of config i e.input) client mine.in_step.in_range
    (event-in_range config i st e.input sized client step.may_come) in
    let stepped : IsClientJoined config world h.arrived (count i h.handled) i (own ++ e ∷ []) (given_to i before.given)
    (times_of i line.handed) =
    joined-one config world h.arrived (count i h.handled) i own (given_to i before.given) (given_to i before.given)
    (times_of i before.handed) (times_of i line.handed) e mine act step.outcome_is
    (subst (λ (x : ℕ). IsInStep config world h.arrived (count i h.handled) (length (started_among own) + x) i (after config i st deed)
    (mine.queue ++ option_to_list (sent_of config i st deed)) (given_to i before.given) (times_of i line.handed))
    (sym begun) done.in_step) in
    let Each : ℕ → List Entry → Type 0 = λ (k : ℕ) (l : List Entry).
    IsClientJoined config world h.arrived (count k h.handled) k l (given_to k before.given) (times_of k line.handed) in
    let each : (k : ℕ) → IsClient n k → Each k (entries_of k (front ++ e ∷ [])) = λ k within. elim (cases_eq i k) [
      | inl same ↦ subst (λ (x : ℕ). Each x (entries_of x (front ++ e ∷ []))) same
          (subst (Each i) (sym (entries_of-own i front e refl)) stepped)
      | inr other ↦ subst (λ (t : ℕ). IsClientJoined config world h.arrived (count k h.handled) k (entries_of k (front ++ e ∷ []))
          (given_to k before.given) t) (sym (others k other))
          (joined-other config world h.arrived (count k h.handled) k front e (given_to k before.given) (times_of k before.handed) other
          (h.each k within))
    ] in
    let joined : Line → Type 0 = λ (l : Line). (k : ℕ) → IsClient n k
    → IsClientJoined config world h.arrived (count k h.handled) k (entries_of k (front ++ e ∷ [])) (given_to k l.given)
    (times_of k l.handed) in
    let now : IsJoined config world (front ++ e ∷ []) = record {
      arrived = h.arrived;
      handled = h.handled;
      honest = subst (λ (l : Line). IsHonest n world l.server h.arrived h.handled) (sym line_is)
          (subst (λ (s : State). IsHonest n world s h.arrived h.handled) (sym server) h.honest);
      each = subst joined (sym line_is) (λ k within.
          subst (λ (g : List Given). IsClientJoined config world h.arrived (count k h.handled) k (entries_of k (front ++ e ∷ []))
          (given_to k g) (times_of k line.handed)) (sym given) (each k within));
      quiet = quiet-one config front e h.arrived deed client refl h.quiet (λ message range has.
          deed-quiet config i st h.arrived deed message client mine.in_step.in_range fits mine.in_step.no_notice done.unbroken
          mine.in_step.within range has);
      given = subst (λ (l : Line). AreGivenOf n world h.arrived h.handled l.given) (sym line_is)
          (subst (AreGivenOf n world h.arrived h.handled) (sym given) h.given);
    } in
    record {
      joined = now;
      goes_on = tail-refl h.arrived;
      listed_on = λ all so_far. order-same config all front e act ∙ so_far;
    }
