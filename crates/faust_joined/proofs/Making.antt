-- Along a run in which no reply departs, each client made the bodies of its operations: those of the SUBMIT as it began, and
-- those of the version as it completed.
use Rattle.std.proofs.Common.{◌≡◌, ◌⊎◌, ◌+◌, ◌<◌, ◌≤◌, ℕ, suc, Bool, true, false, cond, List, [], ◌∷◌, ◌++◌, length, map, option_to_list, Option, Some, None, refl, sym, ap, ◌∙◌, subst, inl, inr, arith}
use Rattle.std.specs.Prelude.{option_map, replicate, slice_get, unwrap_or}
use Rattle.std.proofs.lemmas.Bool.{cases_eq}
use Rattle.std.proofs.lemmas.Option.{same_Some}
use Rattle.faust_types.specs.Clients.{IsClient}
use Rattle.faust_types.specs.Versions.{Vector, digest_at}
use Rattle.faust_types.specs.declared.config.Config.{Config}
use Rattle.faust_types.specs.declared.operation.Kind.{Kind}
use Rattle.faust_types.specs.declared.message.Message.{Message}
use Rattle.faust_types.specs.declared.message.Reply.{Reply}
use Rattle.faust_hash.specs.Chain.{chain_of}
use Rattle.faust_tags.specs.Bodies.{commit_body, data_body, peer_body, proof_body, submit_body}
use Rattle.faust_wire.specs.Reading.{message_of}
use Rattle.faust_wire.proofs.Messages.{reply-read}
use Rattle.faust_ustor.specs.Checks.{digest_of}
use Rattle.faust_ustor.specs.Passed.{next_of, told}
use Rattle.faust_ustor.proofs.Counts.{next-told}
use Rattle.faust_lists.specs.Lists.{count, upto, IsTail}
use Rattle.faust_lists.specs.Names.{Has}
use Rattle.faust_lists.specs.Walks.{IsVersionOf}
use Rattle.faust_lists.proofs.Counts.{last_to-own}
use Rattle.faust_lists.proofs.Fronts.{upto-stable}
use Rattle.faust_lists.proofs.Versions.{version-same}
use Rattle.faust_honest.specs.World.{World, written}
use Rattle.faust_forks.proofs.Members.{has-left, has-right}
use Rattle.faust_agent.specs.State.{completed_count, is_idle}
use Rattle.faust_agent.specs.Deeds.{as_reply, replied, reply_in}
use Rattle.faust_agent.specs.InRange.{IsBegunFor, IsClientOf, IsDeedFor}
use Rattle.faust_agent.specs.Table.{deed_of, dummy_of, is_dummy_due, last_after, own_digest, posts_of}
use Rattle.faust_agent.specs.declared.client.Client.{Client}
use Rattle.faust_agent.specs.declared.deed.Order.{Order}
use Rattle.faust_agent.specs.declared.deed.Deed.{Deed}
use Rattle.faust_agent.specs.declared.deed.Deed.TheVariants as deeds
use Rattle.faust_agent.proofs.Kept.{dummy-begun}
use Rattle.faust_agent.proofs.Reasons.{deed-in_range, deed-tells}
use Rattle.faust_record.specs.Entries.{deed_at, event_of, replay}
use Rattle.faust_record.specs.Made.{bodies_of, bodies_of_begin, bodies_of_completion, made_behind, made_bodies}
use Rattle.faust_record.specs.Operations.{Started, order_in, started_among, started_in}
use Rattle.faust_record.specs.Runs.{entries_of}
use Rattle.faust_record.specs.declared.entry.Input.{Input}
use Rattle.faust_record.specs.declared.entry.Input.TheVariants as inputs
use Rattle.faust_record.specs.declared.entry.Entry.{Entry}
use Rattle.faust_record.proofs.Own.{entries_of-other, entries_of-own}
use Rattle.faust_audit.specs.Departure.{Line, departs_at, due_at, first_line, given_to, is_due, line_at, line_of, times_of}
use Rattle.faust_audit.proofs.Following.{line-append, times-other, times-own}
use Rattle.faust_runs.proofs.Changes.{begun-idle, begun_order, order-begun, outcome-began}
use Rattle.faust_joined.specs.Joined.{AreAllMade, AreBodiesMade, IsInStep, IsJoined, IsOrderOf, IsWaiting}
use Rattle.faust_joined.proofs.Acting.{due-reply, event-in_range}
use Rattle.faust_joined.proofs.Beginning.{idle-waits, last-begun}
use Rattle.faust_joined.proofs.Completing.{IsCompleting, completing}
use Rattle.faust_joined.proofs.Entering.{started-one}
use Rattle.faust_joined.proofs.Joining.{IsNext, not-false}
use Rattle.faust_joined.proofs.Saying.{made-append}
use Rattle.faust_joined.proofs.Telling.{none-handed, told-handed}

-- ---- more is made, and the history goes on

pub bodies-later : (n : ℕ) (world : World) (made more : List (List ℕ)) (arrived later : List ℕ) (k begun done : ℕ)
    → ((body : List ℕ) → Has made body → Has more body) → IsTail arrived later → done ≤ count k arrived
    → AreBodiesMade n world made arrived k begun done → AreBodiesMade n world more later k begun done
bodies-later n world made more arrived later k begun done grows on within h =
    let same : (t : ℕ) → t < done → upto k (suc t) later ≡ upto k (suc t) arrived =
    λ t lt. upto-stable k (suc t) arrived later on (omega (arith, lt, within)) in
    record {
      submitted = λ t lt. grows _ (h.submitted t lt);
      stored = λ t lt. grows _ (h.stored t lt);
      committed = λ t version lt is. grows (commit_body k version)
          (h.committed t version lt (subst (λ (w : List ℕ). IsVersionOf n version w) (same t lt) is));
      proven = λ t digest lt chain. grows (proof_body k digest) (h.proven t digest lt (ap chain_of (sym (same t lt)) ∙ chain));
    }

-- an operation more began
pub bodies-begun : (n : ℕ) (world : World) (made : List (List ℕ)) (arrived : List ℕ) (k begun done : ℕ)
    → Has made (submit_body k (world.kind k (suc begun)) (world.register k (suc begun)) (suc begun))
    → Has made (data_body k (suc begun) (digest_of (written world k (suc begun))))
    → AreBodiesMade n world made arrived k begun done → AreBodiesMade n world made arrived k (suc begun) done
bodies-begun n world made arrived k begun done submit data_is h = record {
  submitted = λ t lt. elim (cases_eq t begun) [
    | inl last ↦ subst (λ (x : ℕ). Has made (submit_body k (world.kind k (suc x)) (world.register k (suc x)) (suc x))) (sym last) submit
    | inr other ↦ h.submitted t (omega (arith, lt, other))
  ];
  stored = λ t lt. elim (cases_eq t begun) [
    | inl last ↦ subst (λ (x : ℕ). Has made (data_body k (suc x) (digest_of (written world k (suc x))))) (sym last) data_is
    | inr other ↦ h.stored t (omega (arith, lt, other))
  ];
  committed = h.committed;
  proven = h.proven;
}

-- the digest in the own place
own-is : (k : ℕ) (next : Vector) (digest : List ℕ) → digest_at next k ≡ Some digest → own_digest k next ≡ digest
own-is k next digest is = ap (λ (o : Option (List ℕ)). unwrap_or o (replicate 32 0)) is

-- an operation more completed
pub bodies-done : (n : ℕ) (world : World) (made : List (List ℕ)) (arrived before : List ℕ) (k begun done : ℕ) (next : Vector)
    → IsClient n k → upto k (suc done) arrived ≡ k ∷ before → IsVersionOf n next (k ∷ before)
    → Has made (commit_body k next) → Has made (proof_body k (own_digest k next))
    → AreBodiesMade n world made arrived k begun done → AreBodiesMade n world made arrived k begun (suc done)
bodies-done n world made arrived before k begun done next client front is commit proof h = record {
  submitted = h.submitted;
  stored = h.stored;
  committed = λ t version lt of_version. elim (cases_eq t done) [
    | inl last ↦
        let there : IsVersionOf n version (k ∷ before) =
        subst (λ (w : List ℕ). IsVersionOf n version w) (ap (λ (x : ℕ). upto k (suc x) arrived) last ∙ front) of_version in
        subst (λ (v : Vector). Has made (commit_body k v)) (version-same n next version (k ∷ before) is there) commit
    | inr other ↦ h.committed t version (omega (arith, lt, other)) of_version
  ];
  proven = λ t digest lt chain. elim (cases_eq t done) [
    | inl last ↦
        let own : digest_at next k ≡ Some digest =
        is.digests k client ∙ ap chain_of (last_to-own k before)
        ∙ ap chain_of (sym (ap (λ (x : ℕ). upto k (suc x) arrived) last ∙ front)) ∙ chain in
        subst (λ (d : List ℕ). Has made (proof_body k d)) (own-is k next digest own) proof
    | inr other ↦ h.proven t digest (omega (arith, lt, other)) chain
  ];
}

-- ---- what an entry begins

ticked-has : (k : ℕ) (st : Client) (b : Bool) (order : Order) (body : List ℕ) → cond b (Some (dummy_of st)) None ≡ Some order
    → Has (bodies_of_begin k st order) body → Has (cond b (bodies_of_begin k st (dummy_of st)) []) body
ticked-has k st true order body is has =
    subst (λ (o : Order). Has (bodies_of_begin k st o) body) (sym (same_Some (dummy_of st) order is)) has
ticked-has k st false order body is has = absurd cc

-- a deed that begins an operation makes its bodies
begin-has : (config : Config) (k : ℕ) (st : Client) (deed : Deed) (order : Order) (body : List ℕ)
    → begun_order config k st deed ≡ Some order → Has (bodies_of_begin k st order) body → Has (bodies_of config k st deed) body
begin-has config k st deeds.Ignores order body is has = absurd cc
begin-has config k st (deeds.Begins begun) order body is has =
    subst (λ (o : Order). Has (bodies_of_begin k st o) body) (sym (same_Some begun order is)) has
begin-has config k st (deeds.Completes done) order body is has = absurd cc
begin-has config k st (deeds.Breaks notice) order body is has = absurd cc
begin-has config k st (deeds.Answers j) order body is has = absurd cc
begin-has config k st (deeds.Hears j known) order body is has = absurd cc
begin-has config k st (deeds.Ticks m) order body is has =
    has-right (map peer_body (posts_of config k st (deeds.Ticks m)))
    (cond (is_dummy_due config k st m) (bodies_of_begin k st (dummy_of st)) []) body
    (ticked-has k st (is_dummy_due config k st m) order body is has)

dummy-is : (st : Client) (b : Bool) (order : Order) → cond b (Some (dummy_of st)) None ≡ Some order → dummy_of st ≡ order
dummy-is st true order is = same_Some (dummy_of st) order is
dummy-is st false order is = absurd cc

-- and it is in range
begin-fits : (config : Config) (k : ℕ) (st : Client) (deed : Deed) (order : Order) → IsClientOf config k st → IsDeedFor config k st deed
    → is_idle k st ≡ true → begun_order config k st deed ≡ Some order → IsBegunFor config k st order
begin-fits config k st deeds.Ignores order kept fits idle is = absurd cc
begin-fits config k st (deeds.Begins begun) order kept fits idle is = subst (IsBegunFor config k st) (same_Some begun order is) fits
begin-fits config k st (deeds.Completes done) order kept fits idle is = absurd cc
begin-fits config k st (deeds.Breaks notice) order kept fits idle is = absurd cc
begin-fits config k st (deeds.Answers j) order kept fits idle is = absurd cc
begin-fits config k st (deeds.Hears j known) order kept fits idle is = absurd cc
begin-fits config k st (deeds.Ticks m) order kept fits idle is =
    subst (IsBegunFor config k st) (dummy-is st (is_dummy_due config k st m) order is) (dummy-begun config k st kept idle)

-- What begins in an entry: the bodies of the next operation are made in it.
record IsOpened (config : Config) (world : World) (front : List Entry) (e : Entry) (begun : ℕ) : Type 0 where
  submit : Has (made_bodies config front e)
      (submit_body e.client (world.kind e.client (suc begun)) (world.register e.client (suc begun)) (suc begun))
  data_is : Has (made_bodies config front e) (data_body e.client (suc begun) (digest_of (written world e.client (suc begun))))

opened : (config : Config) (world : World) (front : List Entry) (e : Entry) (order : Order) → (next : IsNext config world front e)
    → (h : IsJoined config world front) → order_in e.client e.input e.outcome ≡ Some order
    → IsOpened config world front e (length (started_among (entries_of e.client front)))
unfolding made_bodies
opened config world front e order next h is =
    let i : ℕ = e.client in
    let st : Client = replay config i (entries_of i front) in
    let b : ℕ = length (started_among (entries_of i front)) in
    let step = (h.each i next.client).in_step in
    let deed : Deed = deed_at config i st e.input in
    let begins : begun_order config i st deed ≡ Some order =
    sym (order-begun config i st e.input e.outcome next.step.may_come (outcome-began config i st e.input e.outcome next.step.outcome_is))
    ∙ is in
    let idle : is_idle i st ≡ true =
    begun-idle config i st (event_of config i e.input) deed order (deed-tells config i st (event_of config i e.input)) begins in
    let fits : IsDeedFor config i st deed =
    deed-in_range config i st (event_of config i e.input) next.client step.in_range
    (event-in_range config i st e.input next.sized next.client next.step.may_come) in
    let range : IsBegunFor config i st order = begin-fits config i st deed order step.in_range fits idle begins in
    let free : b ≡ completed_count i st =
    subst (IsWaiting world i (completed_count i st) b st.held) (idle-waits i st idle) step.waiting in
    let number : completed_count i st + 1 ≡ suc b = omega (arith, free) in
    let order_is : IsOrderOf world i (suc b) order = next.ordered order is in
    let submit : submit_body i order.kind order.register (completed_count i st + 1)
    ≡ submit_body i (world.kind i (suc b)) (world.register i (suc b)) (suc b) =
    ap (λ (kind : Kind). submit_body i kind order.register (completed_count i st + 1)) (sym order_is.same_kind)
    ∙ ap (λ (register : ℕ). submit_body i (world.kind i (suc b)) register (completed_count i st + 1)) (sym order_is.same_register)
    ∙ ap (λ (t : ℕ). submit_body i (world.kind i (suc b)) (world.register i (suc b)) t) number in
    let stored : data_body i (completed_count i st + 1) (last_after st.last order.value)
    ≡ data_body i (suc b) (digest_of (written world i (suc b))) =
    ap (λ (t : ℕ). data_body i t (last_after st.last order.value)) number
    ∙ ap (λ (d : Option (List ℕ)). data_body i (suc b) d)
    (last-begun world i b order st.last range.order_in_range.value_in_range order_is step.last) in
    record {
      submit = subst (λ (body : List ℕ). Has (bodies_of config i st deed) body) submit
          (begin-has config i st deed order _ begins (inl refl));
      data_is = subst (λ (body : List ℕ). Has (bodies_of config i st deed) body) stored
          (begin-has config i st deed order _ begins (inr (inl refl)));
    }

order-either : (o : Option Order) → (o ≡ None) ⊎ ((order : Order) × (o ≡ Some order))
order-either None = inl refl
order-either (Some order) = inr (order, refl)

started-count : (e : Entry) (o : Option Order) → order_in e.client e.input e.outcome ≡ o
    → length (option_to_list (started_in e)) ≡ length (option_to_list o)
started-count e None is = ap (λ (o : Option Order).
    length (option_to_list (option_map (λ (x : Order). let s : Started = record { order = x; number = e.number } in s) o))) is
started-count e (Some order) is = ap (λ (o : Option Order).
    length (option_to_list (option_map (λ (x : Order). let s : Started = record { order = x; number = e.number } in s) o))) is

-- the operations that its client began
begun-made : (config : Config) (world : World) (front : List Entry) (e : Entry) (arrived : List ℕ) (done : ℕ)
    → IsNext config world front e → IsJoined config world front
    → AreBodiesMade config.clients world (made_behind config [] (front ++ e ∷ [])) arrived e.client
    (length (started_among (entries_of e.client front))) done
    → AreBodiesMade config.clients world (made_behind config [] (front ++ e ∷ [])) arrived e.client
    (length (started_among (entries_of e.client front ++ e ∷ []))) done
begun-made config world front e arrived done next h bodies =
    let n = config.clients in
    let i : ℕ = e.client in
    let own : List Entry = entries_of i front in
    let b : ℕ = length (started_among own) in
    let made : List (List ℕ) = made_behind config [] (front ++ e ∷ []) in
    let one = started-one own e in
    elim (order-either (order_in i e.input e.outcome)) [
      | inl none ↦
          let more : length (option_to_list (started_in e)) ≡ 0 = started-count e None none in
          let same : b ≡ length (started_among (own ++ e ∷ [])) = omega (arith, one, more) in
          subst (λ (x : ℕ). AreBodiesMade n world made arrived i x done) same bodies
      | inr some ↦
          let here : length (option_to_list (started_in e)) ≡ 1 = started-count e (Some some.0) some.1 in
          let more : suc b ≡ length (started_among (own ++ e ∷ [])) = omega (arith, one, here) in
          let begins : IsOpened config world front e b = opened config world front e some.0 next h some.1 in
          let later : (body : List ℕ) → Has (made_bodies config front e) body → Has made body =
          λ body has. subst (λ (l : List (List ℕ)). Has l body) (sym (made-append config [] front e))
          (has-right (made_behind config [] front) (made_bodies config front e) body has) in
          subst (λ (x : ℕ). AreBodiesMade n world made arrived i x done) more
          (bodies-begun n world made arrived i b done (later _ begins.submit) (later _ begins.data_is) bodies)
    ]

-- ---- what an entry completes

-- A reply that is handed over is the one that is due, and completes the operation of its client.
pub record IsHandedOver (config : Config) (world : World) (front : List Entry) (e : Entry) (bytes arrived : List ℕ) : Type 0 where
  pub reply : Reply
  pub is_given : slice_get (given_to e.client (line_of config front).given) (times_of e.client (line_of config front).handed) ≡ Some reply
  pub is_read : reply_in config bytes ≡ Some reply
  pub completes : IsCompleting config world arrived (length (started_among (entries_of e.client front))) e.client
      (replay config e.client (entries_of e.client front)) reply
  pub deed_is : deed_at config e.client (replay config e.client (entries_of e.client front)) e.input
      ≡ deeds.Completes (record { op = completes.op; judged = told e.client reply })

pub handed-over : (config : Config) (world : World) (front : List Entry) (e : Entry) (bytes : List ℕ) → IsNext config world front e
    → e.input ≡ inputs.Reply bytes → (h : IsJoined config world front) → IsHandedOver config world front e bytes h.arrived
handed-over config world front e bytes next is h =
    let i : ℕ = e.client in
    let own : List Entry = entries_of i front in
    let st : Client = replay config i own in
    let before : Line = line_of config front in
    let mine = h.each i next.client in
    let due : is_due config.wire bytes (due_at before i) ≡ true =
    not-false (is_due config.wire bytes (due_at before i)) (ap (departs_at config before i) (sym is) ∙ next.stays) in
    let found = due-reply config.wire bytes (due_at before i) due in
    let reply : Reply = found.0 in
    let completes : IsCompleting config world h.arrived (length (started_among own)) i st reply =
    completing config world h.arrived (count i h.handled) (length (started_among own)) i st mine.queue (given_to i before.given)
    (times_of i before.handed) reply next.same_key mine.in_step found.1 in
    let read : reply_in config bytes ≡ Some reply =
    ap (reply_in config) found.2
    ∙ ap (λ (m : Option Message). as_reply m) (reply-read config.wire config.clients reply next.sized completes.reply_to.in_range) in
    record {
      reply = reply;
      is_given = found.1;
      is_read = read;
      completes = completes;
      deed_is = ap (deed_at config i st) is ∙ ap (λ (r : Option Reply). deed_of config i st (replied r)) read ∙ completes.deed;
    }

completed-has : (config : Config) (front : List Entry) (e : Entry) (deed : Deed) (next : Vector)
    → deed_at config e.client (replay config e.client (entries_of e.client front)) e.input ≡ deed
    → bodies_of config e.client (replay config e.client (entries_of e.client front)) deed ≡ bodies_of_completion e.client next
    → (body : List ℕ) → Has (bodies_of_completion e.client next) body → Has (made_behind config [] (front ++ e ∷ [])) body
unfolding made_bodies
completed-has config front e deed next deed_is makes body has =
    let i : ℕ = e.client in
    let st : Client = replay config i (entries_of i front) in
    let here : Has (made_bodies config front e) body =
    subst (λ (d : Deed). Has (bodies_of config i st d) body) (sym deed_is)
    (subst (λ (l : List (List ℕ)). Has l body) (sym makes) has) in
    subst (λ (l : List (List ℕ)). Has l body) (sym (made-append config [] front e))
    (has-right (made_behind config [] front) (made_bodies config front e) body here)

-- the operations that its client completed
done-made : (config : Config) (world : World) (front : List Entry) (e : Entry) (bytes later : List ℕ) (begun : ℕ)
    → (next : IsNext config world front e) → e.input ≡ inputs.Reply bytes → (h : IsJoined config world front) → IsTail h.arrived later
    → AreBodiesMade config.clients world (made_behind config [] (front ++ e ∷ [])) later e.client begun
    (times_of e.client (line_of config front).handed)
    → AreBodiesMade config.clients world (made_behind config [] (front ++ e ∷ [])) later e.client begun
    (suc (times_of e.client (line_of config front).handed))
done-made config world front e bytes later begun next is h on bodies =
    let n = config.clients in
    let i : ℕ = e.client in
    let st : Client = replay config i (entries_of i front) in
    let d : ℕ = times_of i (line_of config front).handed in
    let over : IsHandedOver config world front e bytes h.arrived = handed-over config world front e bytes next is h in
    let reply : Reply = over.reply in
    let handed : d ≡ completed_count i st = (h.each i next.client).in_step.handed_each in
    let before : List ℕ = over.completes.reply_to.before in
    let within : suc (completed_count i st) ≤ count i h.arrived = omega (arith, over.completes.has_arrived) in
    let front_is : upto i (suc d) later ≡ i ∷ before =
    ap (λ (t : ℕ). upto i (suc t) later) handed
    ∙ upto-stable i (suc (completed_count i st)) h.arrived later on within ∙ over.completes.reply_to.arrived_then in
    let made : (body : List ℕ) → Has (bodies_of_completion i (next_of i reply)) body → Has (made_behind config [] (front ++ e ∷ [])) body =
    completed-has config front e _ (next_of i reply) over.deed_is
    (ap (bodies_of_completion i) (next-told (next_of i reply) reply.read)) in
    bodies-done n world (made_behind config [] (front ++ e ∷ [])) later before i begun d (next_of i reply) next.client front_is
    over.completes.reply_to.accepted.next (made _ (inl refl)) (made _ (inr (inl refl))) bodies

-- ---- an entry

-- to nobody else a reply is handed over
reply-or-none : (config : Config) (front : List Entry) (e : Entry) (input : Input) → e.input ≡ input
    → ((bytes : List ℕ) × (e.input ≡ inputs.Reply bytes)) ⊎ ((line_of config (front ++ e ∷ [])).handed ≡ (line_of config front).handed)
reply-or-none config front e (inputs.Write value) is = inr (none-handed config front e (inputs.Write value) is refl)
reply-or-none config front e (inputs.Read register) is = inr (none-handed config front e (inputs.Read register) is refl)
reply-or-none config front e (inputs.Reply bytes) is = inl (bytes, is)
reply-or-none config front e (inputs.Peer bytes) is = inr (none-handed config front e (inputs.Peer bytes) is refl)
reply-or-none config front e (inputs.Tick m) is = inr (none-handed config front e (inputs.Tick m) is refl)
reply-or-none config front e (inputs.Arrive message) is =
    inr (none-handed config front e (inputs.Arrive message) is
    (told-handed (line_of config front) e.client (message_of config.wire config.clients message)))

handed-one : (config : Config) (front : List Entry) (e : Entry) (bytes : List ℕ) → e.input ≡ inputs.Reply bytes
    → (line_of config (front ++ e ∷ [])).handed ≡ (line_of config front).handed ++ e.client ∷ []
handed-one config front e bytes is =
    ap (λ (l : Line). l.handed) (line-append config (first_line config.clients) front e)
    ∙ ap (λ (y : Input). (line_at config (line_of config front) e.client y).handed) is

handed-other : (config : Config) (front : List Entry) (e : Entry) (k : ℕ) → (e.client ≡ k → ⊥)
    → times_of k (line_of config front).handed ≡ times_of k (line_of config (front ++ e ∷ [])).handed
handed-other config front e k other = elim (reply-or-none config front e e.input refl) [
  | inl reply ↦
      sym (ap (times_of k) (handed-one config front e reply.0 reply.1) ∙ times-other e.client k (line_of config front).handed other)
  | inr none ↦ sym (ap (times_of k) none)
]

own-made : (config : Config) (world : World) (front : List Entry) (e : Entry) (later : List ℕ) (begun : ℕ)
    → IsNext config world front e → (h : IsJoined config world front) → IsTail h.arrived later
    → AreBodiesMade config.clients world (made_behind config [] (front ++ e ∷ [])) later e.client begun
    (times_of e.client (line_of config front).handed)
    → AreBodiesMade config.clients world (made_behind config [] (front ++ e ∷ [])) later e.client begun
    (times_of e.client (line_of config (front ++ e ∷ [])).handed)
own-made config world front e later begun next h on bodies =
    let i : ℕ = e.client in
    let made : List (List ℕ) = made_behind config [] (front ++ e ∷ []) in
    let Made : ℕ → Type 0 = λ (t : ℕ). AreBodiesMade config.clients world made later i begun t in
    elim (reply-or-none config front e e.input refl) [
      | inl reply ↦ subst Made
          (sym (ap (times_of i) (handed-one config front e reply.0 reply.1) ∙ times-own i i (line_of config front).handed refl))
          (done-made config world front e reply.0 later begun next reply.1 h on bodies)
      | inr none ↦ subst Made (sym (ap (times_of i) none)) bodies
    ]

pub all-made-next : (config : Config) (world : World) (front : List Entry) (e : Entry) (later : List ℕ) → IsNext config world front e
    → (h : IsJoined config world front) → IsTail h.arrived later → AreAllMade config world h.arrived front
    → AreAllMade config world later (front ++ e ∷ [])
all-made-next config world front e later next h on all k client =
    let n = config.clients in
    let i : ℕ = e.client in
    let made : List (List ℕ) = made_behind config [] (front ++ e ∷ []) in
    let step : IsInStep config world h.arrived (count k h.handled) (length (started_among (entries_of k front))) k
    (replay config k (entries_of k front)) (h.each k client).queue (given_to k (line_of config front).given)
    (times_of k (line_of config front).handed) = (h.each k client).in_step in
    let grows : (body : List ℕ) → Has (made_behind config [] front) body → Has made body =
    λ body has. subst (λ (l : List (List ℕ)). Has l body) (sym (made-append config [] front e))
    (has-left (made_behind config [] front) (made_bodies config front e) body has) in
    let kept : AreBodiesMade n world made later k (length (started_among (entries_of k front))) (times_of k (line_of config front).handed) =
    bodies-later n world (made_behind config [] front) made h.arrived later k (length (started_among (entries_of k front)))
    (times_of k (line_of config front).handed) grows on (omega (arith, step.handed_each, step.has_arrived)) (all k client) in
    let Made : ℕ → List Entry → ℕ → Type 0 = λ (j : ℕ) (own : List Entry) (t : ℕ).
    AreBodiesMade n world made later j (length (started_among own)) t in
    elim (cases_eq i k) [
      | inl same ↦
          let mine : Made i (entries_of i front) (times_of i (line_of config front).handed) =
          subst (λ (j : ℕ). Made j (entries_of j front) (times_of j (line_of config front).handed)) (sym same) kept in
          let begun : Made i (entries_of i front ++ e ∷ []) (times_of i (line_of config front).handed) =
          begun-made config world front e later (times_of i (line_of config front).handed) next h mine in
          let done : Made i (entries_of i front ++ e ∷ []) (times_of i (line_of config (front ++ e ∷ [])).handed) =
          own-made config world front e later (length (started_among (entries_of i front ++ e ∷ []))) next h on begun in
          subst (λ (j : ℕ). Made j (entries_of j (front ++ e ∷ [])) (times_of j (line_of config (front ++ e ∷ [])).handed)) same
          (subst (λ (own : List Entry). Made i own (times_of i (line_of config (front ++ e ∷ [])).handed))
          (sym (entries_of-own i front e refl)) done)
      | inr other ↦
          subst (λ (own : List Entry). Made k own (times_of k (line_of config (front ++ e ∷ [])).handed))
          (sym (entries_of-other k front e other))
          (subst (Made k (entries_of k front)) (handed-other config front e k other) kept)
    ]

pub all-made-first : (config : Config) (world : World) (arrived : List ℕ) → AreAllMade config world arrived []
all-made-first config world arrived k client = record {
  submitted = λ t lt. absurd (omega (arith, lt));
  stored = λ t lt. absurd (omega (arith, lt));
  committed = λ t version lt is. absurd (omega (arith, lt));
  proven = λ t digest lt is. absurd (omega (arith, lt));
}
