-- An entry in which a message arrives: the honest server takes it, and all stay in step.
use Rattle.std.proofs.Common.{◌≡◌, ℕ, List, [], ◌∷◌, ◌++◌, length, map, Option, Some, None, refl, sym, ap, ◌∙◌, subst, inl, inr, Bool, true, false, cond, option_to_list, suc}
use Rattle.std.specs.Prelude.{slice_get, ◌||◌, is_some, option_and_then}
use Rattle.std.proofs.lemmas.List.{append-nil}
use Rattle.std.proofs.lemmas.Bool.{cases_eq}
use Rattle.faust_types.specs.Clients.{IsClient, IsClientCount}
use Rattle.faust_types.specs.declared.config.Config.{Config}
use Rattle.faust_types.specs.declared.operation.Kind.{Kind}
use Rattle.faust_types.specs.declared.operation.OpName.{OpName}
use Rattle.faust_types.specs.declared.message.Commit.{Commit}
use Rattle.faust_types.specs.declared.message.Message.{Message}
use Rattle.faust_types.specs.declared.message.Message.TheVariants as messages
use Rattle.faust_types.specs.declared.message.Reply.{Reply}
use Rattle.faust_types.specs.declared.message.Submit.{Submit}
use Rattle.faust_wire.specs.Grammar.{commit_bytes, submit_bytes}
use Rattle.faust_wire.specs.Reading.{message_of}
use Rattle.faust_wire.proofs.Messages.{commit-read, submit-read}
use Rattle.faust_lists.specs.Lists.{count}
use Rattle.faust_lists.proofs.Counts.{count-le-cons, count-other}
use Rattle.faust_lists.proofs.Tails.{tail-refl}
use Rattle.faust_names.specs.ForkViews.{listed}
use Rattle.faust_names.specs.Histories.{named}
use Rattle.faust_server.specs.Rows.{State, committed}
use Rattle.faust_honest.specs.World.{World}
use Rattle.faust_honest.specs.Honest.{IsHonest}
use Rattle.faust_honest.proofs.Rides.{committed-well}
use Rattle.faust_agent.specs.Deeds.{Sent, commits, submits}
use Rattle.faust_agent.specs.Outcomes.{sent_bytes}
use Rattle.faust_agent.specs.Table.{deed_of}
use Rattle.faust_agent.specs.declared.client.Client.{Client}
use Rattle.faust_agent.specs.declared.deed.Deed.TheVariants as deeds
use Rattle.faust_record.specs.Entries.{IsStep, deed_at, replay}
use Rattle.faust_record.specs.Operations.{started_among, completion_named}
use Rattle.faust_record.specs.Runs.{arrived_in, entries_of, next_message, sent_in, arriving}
use Rattle.faust_record.specs.declared.entry.Input.{Input}
use Rattle.faust_record.specs.declared.entry.Input.TheVariants as inputs
use Rattle.faust_record.specs.declared.entry.Entry.{Entry}
use Rattle.faust_record.proofs.Own.{entries_of-own}
use Rattle.faust_audit.specs.Departure.{Line, first_line, given_to, line_at, line_of, line_served, line_settled, line_told, times_of}
use Rattle.faust_audit.proofs.Following.{given-other, given-own, line-append}
use Rattle.faust_audit.specs.Findings.{as_submit, is_write, name_in_order, order_among, submit_in}
use Rattle.faust_audit.proofs.Gathering.{order-more}
use Rattle.faust_joined.specs.Joined.{AreGivenOf, IsGrown, is_named_in, IsClientJoined, IsInStep, IsJoined, IsSubmitDue}
use Rattle.faust_joined.proofs.Acting.{quiet-one}
use Rattle.faust_joined.proofs.Arriving.{IsHead, IsServedNext, committed-in_step, handled_with, head-of, next-queued, ok-and, served-next, submitted-in_step, taken-more}
use Rattle.faust_joined.proofs.Entering.{arrived-one, joined-more, joined-other}
use Rattle.faust_joined.proofs.Grown.{quiet-more}
use Rattle.faust_joined.proofs.Replying.{given-later, given-one}

-- a client does nothing when its message arrives
arrival-ignored : (config : Config) (k : ℕ) (st : Client) (input : Input) (message : List ℕ) → input ≡ inputs.Arrive message
    → deed_at config k st input ≡ deeds.Ignores
unfolding deed_of
arrival-ignored config k st input message is = ap (deed_at config k st) is

handled-other : (i k : ℕ) (handled : List ℕ) (c : Option Commit) → (i ≡ k → ⊥) → count k handled ≡ count k (handled_with i handled c)
handled-other i k handled None other = refl
handled-other i k handled (Some c) other = sym (count-other k i handled other)

-- the line after an arrival
line-arrived : (config : Config) (front : List Entry) (e : Entry) (message : List ℕ) (m : Message) → e.input ≡ inputs.Arrive message
    → message_of config.wire config.clients message ≡ Some m
    → line_of config (front ++ e ∷ []) ≡ line_told (line_of config front) e.client (Some m)
line-arrived config front e message m input read =
    line-append config (first_line config.clients) front e
    ∙ ap (line_at config (line_of config front) e.client) input
    ∙ ap (line_told (line_of config front) e.client) read

-- the order of arrival behind it
order-read : (config : Config) (all front : List Entry) (e : Entry) (message : List ℕ) (m : Message) → e.input ≡ inputs.Arrive message
    → message_of config.wire config.clients message ≡ Some m
    → order_among config all (front ++ e ∷ []) ≡ order_among config all front
    ++ option_to_list (option_and_then (name_in_order all e.client) (as_submit (Some m)))
order-read config all front e message m input read =
    order-more config all front e
    ∙ ap (λ (x : Input). order_among config all front
    ++ option_to_list (option_and_then (name_in_order all e.client) (option_and_then (submit_in config) (arriving x)))) input
    ∙ ap (λ (o : Option Message). order_among config all front
    ++ option_to_list (option_and_then (name_in_order all e.client) (as_submit o))) read

order-commit : (config : Config) (all front : List Entry) (e : Entry) (message : List ℕ) (c : Commit) → e.input ≡ inputs.Arrive message
    → message_of config.wire config.clients message ≡ Some (messages.Commit c)
    → order_among config all (front ++ e ∷ []) ≡ order_among config all front
order-commit config all front e message c input read =
    order-read config all front e message (messages.Commit c) input read ∙ append-nil (order_among config all front)

named-or-not : (b : Bool) (names : List OpName) (name : OpName)
    → names ++ option_to_list (cond b (Some name) None) ≡ cond b (names ++ name ∷ []) names
named-or-not true names name = refl
named-or-not false names name = append-nil names

order-submit : (config : Config) (world : World) (all front : List Entry) (e : Entry) (message : List ℕ) (m : Submit) (arrived : List ℕ)
    → e.input ≡ inputs.Arrive message → message_of config.wire config.clients message ≡ Some (messages.Submit m)
    → (taken : ℕ) → IsSubmitDue config world arrived e.client (count e.client arrived) taken m
    → order_among config all front ≡ listed (is_named_in world all) arrived
    → order_among config all (front ++ e ∷ []) ≡ listed (is_named_in world all) (e.client ∷ arrived)
order-submit config world all front e message m arrived input read taken due so_far =
    let i : ℕ = e.client in
    let number : m.t ≡ suc (count i arrived) = ap (λ (x : Submit). x.t) due.is_next in
    let kind : m.kind ≡ world.kind i (suc (count i arrived)) = ap (λ (x : Submit). x.kind) due.is_next in
    let name : ℕ → OpName = named i in
    let test : Kind → ℕ → Bool = λ (x : Kind) (t : ℕ). is_write x || is_some (completion_named all (name t)) in
    let last : ℕ → Bool → List OpName = λ (t : ℕ) (b : Bool). cond b (listed (is_named_in world all) arrived ++ name t ∷ [])
    (listed (is_named_in world all) arrived) in
    order-read config all front e message (messages.Submit m) input read
    ∙ named-or-not (test m.kind m.t) (order_among config all front) (name m.t)
    ∙ ap (λ (l : List OpName). cond (test m.kind m.t) (l ++ name m.t ∷ []) l) so_far
    ∙ ap (λ (t : ℕ). last t (test m.kind t)) number
    ∙ ap (λ (x : Kind). last (suc (count i arrived)) (test x (suc (count i arrived)))) kind

-- A message is the first that waits.
record IsFirst (config : Config) (world : World) (front : List Entry) (e : Entry) (message : List ℕ) (arrived handled : List ℕ)
    (s : Sent) : Type
    0 where
  rest : List Sent
  gone : List (List ℕ)
  sent_is : sent_in (entries_of e.client front) ≡ gone ++ map (sent_bytes config.wire) (s ∷ rest)
  counted : length gone ≡ length (arrived_in (entries_of e.client front))
  in_step : IsInStep config world arrived (count e.client handled) (length (started_among (entries_of e.client front))) e.client
      (replay config e.client (entries_of e.client front)) (s ∷ rest) (given_to e.client (line_of config front).given)
      (times_of e.client (line_of config front).handed)

submit-joined : (config : Config) (world : World) (front : List Entry) (e : Entry) (message : List ℕ) → IsClientCount config.clients
    → IsClient config.clients e.client → IsStep config e.client (replay config e.client (entries_of e.client front)) e
    → e.input ≡ inputs.Arrive message → (h : IsJoined config world front) → (m : Submit) → submit_bytes config.wire m ≡ message
    → IsFirst config world front e message h.arrived h.handled (submits m) → IsGrown config world front e h.arrived
submit-joined config world front e message sized client step input h m spelled first =
    let n = config.clients in
    let i : ℕ = e.client in
    let own : List Entry = entries_of i front in
    let before : Line = line_of config front in
    let due : IsSubmitDue config world h.arrived i (count i h.arrived) (count i h.handled) m = first.in_step.leads.0 in
    let next : IsServedNext n world before.server h.arrived h.handled i m =
    served-next config world before.server h.arrived h.handled i m h.honest client due in
    let reply : Reply = next.served.reply in
    let line : Line = record before {
      server = next.served.state;
      given = before.given ++ (record { client = i; reply = reply }) ∷ [];
    } in
    let read : message_of config.wire n message ≡ Some (messages.Submit m) =
    ap (message_of config.wire n) (sym spelled) ∙ submit-read config.wire n m sized due.in_range.0 due.in_range.1 in
    let line_is : line_of config (front ++ e ∷ []) ≡ line =
    line-arrived config front e message (messages.Submit m) input read ∙ ap (line_served before i) next.row in
    let now : List ℕ = i ∷ h.arrived in
    let after : List ℕ = handled_with i h.handled m.commit in
    let mine : IsClientJoined config world now (count i after) i (own ++ e ∷ []) (given_to i before.given ++ reply ∷ [])
    (times_of i before.handed) =
    arrived-one config world now (count i after) i own (given_to i before.given ++ reply ∷ []) (times_of i before.handed) e message
    first.gone (submits m) first.rest input step.outcome_is first.sent_is first.counted
    (submitted-in_step config world h.arrived h.handled (length (started_among own)) i (replay config i own) m first.rest
    (given_to i before.given) (times_of i before.handed) reply first.in_step next.reply_to) in
    let Each : ℕ → List Entry → List Reply → Type 0 = λ (k : ℕ) (l : List Entry) (g : List Reply).
    IsClientJoined config world now (count k after) k l g (times_of k before.handed) in
    let each : (k : ℕ) → IsClient n k → Each k (entries_of k (front ++ e ∷ [])) (given_to k line.given) = λ k within. elim (cases_eq i k) [
      | inl same ↦ subst (λ (x : ℕ). Each x (entries_of x (front ++ e ∷ [])) (given_to x line.given)) same
          (subst (λ (l : List Entry). Each i l (given_to i line.given)) (sym (entries_of-own i front e refl))
          (subst (Each i (own ++ e ∷ [])) (sym (given-own i i before.given reply refl)) mine))
      | inr other ↦
          subst (Each k (entries_of k (front ++ e ∷ []))) (sym (given-other i k before.given reply other))
          (subst (λ (c : ℕ). IsClientJoined config world now c k (entries_of k (front ++ e ∷ [])) (given_to k before.given)
          (times_of k before.handed)) (handled-other i k h.handled m.commit other)
          (joined-more config world h.arrived (count k h.handled) k i (entries_of k (front ++ e ∷ [])) (given_to k before.given)
          (times_of k before.handed) other
          (joined-other config world h.arrived (count k h.handled) k front e (given_to k before.given) (times_of k before.handed) other
          (h.each k within))))
    ] in
    let joined : IsJoined config world (front ++ e ∷ []) = record {
      arrived = now;
      handled = after;
      honest = subst (λ (l : Line). IsHonest n world l.server now after) (sym line_is) next.honest;
      each = subst (λ (l : Line). (k : ℕ) → IsClient n k
          → IsClientJoined config world now (count k after) k (entries_of k (front ++ e ∷ [])) (given_to k l.given) (times_of k l.handed))
          (sym line_is) each;
      quiet = quiet-one config front e now deeds.Ignores client (arrival-ignored config i (replay config i own) e.input message input)
          (λ said range has. quiet-more n h.arrived i said.peer (h.quiet said range has)) (λ said range has. absurd has);
      given = subst (λ (l : Line). AreGivenOf n world now after l.given) (sym line_is)
          (given-one n world now after before.given _
          (given-later n world h.arrived h.handled now after before.given (inr (tail-refl h.arrived))
          (taken-more i h.handled m.commit) h.given)
          next.of_history);
    } in
    record {
      joined = joined;
      goes_on = inr (tail-refl h.arrived);
      listed_on = λ all so_far. order-submit config world all front e message m h.arrived input read (count i h.handled) due so_far;
    }

commit-joined : (config : Config) (world : World) (front : List Entry) (e : Entry) (message : List ℕ) → IsClientCount config.clients
    → IsClient config.clients e.client → IsStep config e.client (replay config e.client (entries_of e.client front)) e
    → e.input ≡ inputs.Arrive message → (h : IsJoined config world front) → (c : Commit) → commit_bytes config.wire c ≡ message
    → IsFirst config world front e message h.arrived h.handled (commits c) → IsGrown config world front e h.arrived
commit-joined config world front e message sized client step input h c spelled first =
    let n = config.clients in
    let i : ℕ = e.client in
    let own : List Entry = entries_of i front in
    let before : Line = line_of config front in
    let due = first.in_step.leads.0 in
    let taken = ok-and (λ (st : State). IsHonest n world st h.arrived (i ∷ h.handled)) (committed before.server i c)
    (committed-well n world before.server h.arrived h.handled i c h.honest client due.in_range due.balanced due.is_made.is_commit) in
    let line : Line = record before { server = taken.0 } in
    let read : message_of config.wire n message ≡ Some (messages.Commit c) =
    ap (message_of config.wire n) (sym spelled) ∙ commit-read config.wire n c sized due.in_range in
    let line_is : line_of config (front ++ e ∷ []) ≡ line =
    line-arrived config front e message (messages.Commit c) input read ∙ ap (line_settled before) taken.1 in
    let after : List ℕ = i ∷ h.handled in
    let mine : IsClientJoined config world h.arrived (count i after) i (own ++ e ∷ []) (given_to i before.given)
    (times_of i before.handed) =
    arrived-one config world h.arrived (count i after) i own (given_to i before.given) (times_of i before.handed) e message
    first.gone (commits c) first.rest input step.outcome_is first.sent_is first.counted
    (committed-in_step config world h.arrived h.handled (length (started_among own)) i (replay config i own) c first.rest
    (given_to i before.given) (times_of i before.handed) first.in_step) in
    let Each : ℕ → List Entry → Type 0 = λ (k : ℕ) (l : List Entry).
    IsClientJoined config world h.arrived (count k after) k l (given_to k before.given) (times_of k before.handed) in
    let each : (k : ℕ) → IsClient n k → Each k (entries_of k (front ++ e ∷ [])) = λ k within. elim (cases_eq i k) [
      | inl same ↦ subst (λ (x : ℕ). Each x (entries_of x (front ++ e ∷ []))) same
          (subst (Each i) (sym (entries_of-own i front e refl)) mine)
      | inr other ↦
          subst (λ (x : ℕ). IsClientJoined config world h.arrived x k (entries_of k (front ++ e ∷ [])) (given_to k before.given)
          (times_of k before.handed)) (sym (count-other k i h.handled other))
          (joined-other config world h.arrived (count k h.handled) k front e (given_to k before.given) (times_of k before.handed) other
          (h.each k within))
    ] in
    let joined : IsJoined config world (front ++ e ∷ []) = record {
      arrived = h.arrived;
      handled = after;
      honest = subst (λ (l : Line). IsHonest n world l.server h.arrived after) (sym line_is) taken.2;
      each = subst (λ (l : Line). (k : ℕ) → IsClient n k
          → IsClientJoined config world h.arrived (count k after) k (entries_of k (front ++ e ∷ [])) (given_to k l.given)
          (times_of k l.handed))
          (sym line_is) each;
      quiet = quiet-one config front e h.arrived deeds.Ignores client (arrival-ignored config i (replay config i own) e.input message input)
          h.quiet (λ said range has. absurd has);
      given = subst (λ (l : Line). AreGivenOf n world h.arrived after l.given) (sym line_is)
          (given-later n world h.arrived h.handled h.arrived after before.given (tail-refl h.arrived)
          (λ k. count-le-cons k i h.handled) h.given);
    } in
    record {
      joined = joined;
      goes_on = tail-refl h.arrived;
      listed_on = λ all so_far. order-commit config all front e message c input read ∙ so_far;
    }

serve : (config : Config) (world : World) (front : List Entry) (e : Entry) (message : List ℕ) → IsClientCount config.clients
    → IsClient config.clients e.client → IsStep config e.client (replay config e.client (entries_of e.client front)) e
    → e.input ≡ inputs.Arrive message → (h : IsJoined config world front) → (s : Sent) → sent_bytes config.wire s ≡ message
    → IsFirst config world front e message h.arrived h.handled s → IsGrown config world front e h.arrived
serve config world front e message sized client step input h (submits m) spelled first =
    submit-joined config world front e message sized client step input h m spelled first
serve config world front e message sized client step input h (commits c) spelled first =
    commit-joined config world front e message sized client step input h c spelled first

pub arrival-joined : (config : Config) (world : World) (front : List Entry) (e : Entry) (message : List ℕ) → IsClientCount config.clients
    → IsClient config.clients e.client → IsStep config e.client (replay config e.client (entries_of e.client front)) e
    → e.input ≡ inputs.Arrive message → next_message e.client front ≡ Some message → (h : IsJoined config world front)
    → IsGrown config world front e h.arrived
arrival-joined config world front e message sized client step input due h =
    let i : ℕ = e.client in
    let own : List Entry = entries_of i front in
    let spell : Sent → List ℕ = sent_bytes config.wire in
    let mine = h.each i client in
    let gone : List (List ℕ) = mine.queued.gone in
    let found : slice_get (map spell mine.queue) 0 ≡ Some message =
    sym (next-queued gone (map spell mine.queue))
    ∙ ap (λ (l : List (List ℕ)). slice_get l (length gone)) (sym mine.queued.sent_is)
    ∙ ap (slice_get (sent_in own)) mine.queued.counted
    ∙ due in
    let head : IsHead spell mine.queue message = head-of spell mine.queue message found in
    serve config world front e message sized client step input h head.sent head.spelled (record {
      rest = head.rest;
      gone = gone;
      sent_is = mine.queued.sent_is ∙ ap (λ (q : List Sent). gone ++ map spell q) head.queue_is;
      counted = mine.queued.counted;
      in_step = subst (λ (q : List Sent). IsInStep config world h.arrived (count i h.handled) (length (started_among own)) i
          (replay config i own) q (given_to i (line_of config front).given) (times_of i (line_of config front).handed))
          head.queue_is mine.in_step;
    })
