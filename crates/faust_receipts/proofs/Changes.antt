-- What one entry of a client changes: an operation begins, the pending one completes, or neither.
use Rattle.std.proofs.Common.{◌≡◌, ℕ, ◌+◌, ◌^◌, ◌<◌, Bool, true, false, cond, Option, Some, None, IfSome, refl, sym, ap, ◌∙◌, subst, arith}
use Rattle.std.proofs.lemmas.Bool.{cond-true}
use Rattle.faust_types.specs.Clients.{IsClient, IsClientCount}
use Rattle.faust_types.specs.Ranges.{IsReplyFor, IsValue}
use Rattle.faust_types.specs.Versions.{Vector, timestamp_at}
use Rattle.faust_types.specs.declared.config.Config.{Config}
use Rattle.faust_types.specs.declared.operation.Kind.{Kind}
use Rattle.faust_types.specs.declared.operation.Kind.TheVariants.{Write, Read}
use Rattle.faust_types.specs.declared.operation.Answer.{Answer}
use Rattle.faust_types.specs.declared.operation.Operation.{Operation}
use Rattle.faust_types.specs.declared.message.ReadPart.{ReadPart}
use Rattle.faust_ustor.specs.Checks.{is_part_for}
use Rattle.faust_ustor.specs.Passed.{next_of, told_of}
use Rattle.faust_ustor.specs.declared.judgement.Judged.{Judged}
use Rattle.faust_ustor.proofs.Counts.{next-told, timestamp-next_own}
use Rattle.faust_ustor.proofs.Passes.{JudgedOk, judged-passed}
use Rattle.faust_agent.specs.State.{completed_count, version_at}
use Rattle.faust_agent.specs.Deeds.{Event, asked, read_of, write_of}
use Rattle.faust_agent.specs.InRange.{IsClientOf, IsDeedFor, IsWaitedFor}
use Rattle.faust_agent.specs.Table.{after, answer_of, completed_by, dummy_of, is_dummy_due, operation_of, ticked_by}
use Rattle.faust_agent.specs.Tells.{IsEventFor, Tells}
use Rattle.faust_agent.specs.declared.client.Client.{Client}
use Rattle.faust_agent.specs.declared.deed.Completion.{Completion}
use Rattle.faust_agent.specs.declared.deed.Deed.{Deed}
use Rattle.faust_agent.specs.declared.deed.Deed.TheVariants as deeds
use Rattle.faust_agent.specs.declared.deed.Order.{Order}
use Rattle.faust_agent.proofs.Kept.{kept-after}
use Rattle.faust_agent.proofs.Reasons.{deed-in_range, deed-tells}
use Rattle.faust_record.specs.Entries.{IsStep, deed_at, event_of, state_at}
use Rattle.faust_record.specs.Operations.{order_in}
use Rattle.faust_record.specs.declared.entry.Input.{Input}
use Rattle.faust_record.specs.declared.entry.Input.TheVariants as inputs
use Rattle.faust_record.specs.declared.entry.Entry.{Entry}
use Rattle.faust_runs.proofs.Changes.{answer_to, begun-idle, begun_order, order-begun, outcome-answer, outcome-began}
use Rattle.faust_runs.proofs.Events.{event-in_range}
use Rattle.faust_runs.proofs.Frames.{IsMoved, completed-moved, frame-dummy, frame-heard, frame-ticked, idle-waiting}
use Rattle.faust_runs.proofs.Stepping.{state-here}

-- What a completion tells of its own, and that all of it can be printed.
pub record IsAnswerTo (n : ℕ) (answer : Answer) : Type 0 where
  pub no_value : answer.op.kind ≡ Write → answer.value ≡ None
  pub no_asof : answer.op.kind ≡ Write → answer.asof ≡ 0
  pub number_below : answer.op.name.t < 2 ^ 40
  pub register_in_range : IsClient n answer.op.register
  pub asof_below : answer.asof < 2 ^ 40
  pub value_in_range : IfSome answer.value IsValue

pub data Change (n me : ℕ) (st now : Client) (order : Option Order) (answer : Option Answer) : Type 0 where
  stays : order ≡ None → answer ≡ None → now.waiting ≡ st.waiting → completed_count me now ≡ completed_count me st
      → Change n me st now order answer
  opens : (begun : Order) → order ≡ Some begun → answer ≡ None → st.waiting ≡ None → now.waiting ≡ Some (operation_of me st begun)
      → completed_count me now ≡ completed_count me st → (begun.kind ≡ Write → begun.register ≡ me) → Change n me st now order answer
  closes : (given : Answer) → order ≡ None → answer ≡ Some given → st.waiting ≡ Some given.op → now.waiting ≡ None
      → completed_count me now ≡ completed_count me st + 1 → IsAnswerTo n given → Change n me st now order answer

-- a write of a user is of its own register
own-order : (config : Config) (me : ℕ) (input : Input) (order : Order) → event_of config me input ≡ asked order
    → order.kind ≡ Write → order.register ≡ me
own-order config me (inputs.Write value) order came write =
    let is : write_of me value ≡ order = cc in ap (λ (o : Order). o.register) (sym is)
own-order config me (inputs.Read register) order came write =
    let is : read_of register false ≡ order = cc in
    let kind : Read ≡ Write = ap (λ (o : Order). o.kind) is ∙ write in absurd (cc)
own-order config me (inputs.Reply bytes) order came write = absurd (cc)
own-order config me (inputs.Peer bytes) order came write = absurd (cc)
own-order config me (inputs.Tick moment) order came write = absurd (cc)
own-order config me (inputs.Arrive message) order came write = absurd (cc)

-- what the reply to a write tells
write-part : (register : ℕ) (read : Option ReadPart) → is_part_for Write register read ≡ true → read ≡ None
write-part register None fits = refl
write-part register (Some part) fits = absurd (cc)

write-tells : (next : Vector) (read : Option ReadPart) → read ≡ None
    → ((told_of next read).value ≡ None) × ((told_of next read).asof ≡ 0)
write-tells next None is = (refl, refl)
write-tells next (Some part) is = absurd (cc)

below-option : (config : Config) (me : ℕ) (own : Vector) (waiting : Option Operation)
    → IfSome waiting (IsWaitedFor config.clients me own) → IfSome waiting (λ (op : Operation). op.name.t < 2 ^ 40)
below-option config me own None h = tt
below-option config me own (Some op) h = h.pending.below

-- the number of the pending operation is in range
below-waiting : (config : Config) (me : ℕ) (st : Client) → IsClientOf config me st
    → IfSome st.waiting (λ (op : Operation). op.name.t < 2 ^ 40)
below-waiting config me st kept = below-option config me (version_at st me) st.waiting kept.waiting_in_range

completes : (config : Config) (me : ℕ) (st : Client) (event : Event) (done : Completion) → IsClient config.clients me
    → IsClientOf config me st → IsEventFor config.clients event → Tells config me st event (deeds.Completes done)
    → IsDeedFor config me st (deeds.Completes done)
    → Change config.clients me st (completed_by config me st done) None (Some (answer_to done))
completes config me st event done client kept fits tells does =
    let n = config.clients in
    let moved : IsMoved me st (completed_by config me st done) done.judged.next =
    completed-moved config me st done kept client does.register_in_range in
    let replied_for : IsReplyFor n tells.reply = subst (IsEventFor n) tells.came fits in
    let ok : JudgedOk config.key me (version_at st me) done.op tells.reply done.judged =
    judged-passed config.key me (version_at st me) done.op tells.reply done.judged tells.passed_checks in
    let next : done.judged.next ≡ next_of me tells.reply =
    ap (λ (j : Judged). j.next) ok.tells ∙ next-told (next_of me tells.reply) tells.reply.read in
    let more : timestamp_at (next_of me tells.reply) me ≡ timestamp_at tells.reply.version.version me + 1 =
    timestamp-next_own config.key n me tells.reply replied_for client ok.passed.tuples_passed in
    let here : completed_count me (completed_by config me st done) ≡ timestamp_at (next_of me tells.reply) me =
    ap (λ (v : Vector). timestamp_at v me) (moved.own ∙ next) in
    let awaited = subst (λ (w : Option Operation). IfSome w (λ op. op.name.t < 2 ^ 40)) tells.waited
    (below-waiting config me st kept) in
    let part : done.op.kind ≡ Write → tells.reply.read ≡ None = λ write.
    write-part done.op.register tells.reply.read
    (subst (λ (k : Kind). is_part_for k done.op.register tells.reply.read ≡ true) write ok.passed.part_fits) in
    let silent : done.op.kind ≡ Write → (done.judged.value ≡ None) × (done.judged.asof ≡ 0) = λ write.
    let says = write-tells (next_of me tells.reply) tells.reply.read (part write) in
    (ap (λ (j : Judged). j.value) ok.tells ∙ says.0, ap (λ (j : Judged). j.asof) ok.tells ∙ says.1) in
    closes (answer_to done) refl refl tells.waited moved.waiting
    (omega (arith, here, more, ok.passed.own_counted))
    (record {
      no_value = λ write. (silent write).0;
      no_asof = λ write. (silent write).1;
      number_below = awaited;
      register_in_range = does.register_in_range;
      asof_below = does.judged_in_range.asof_below;
      value_in_range = does.judged_in_range.value_in_range;
    })

ticks : (config : Config) (me : ℕ) (st : Client) (event : Event) (m : ℕ) (due : Bool) → is_dummy_due config me st m ≡ due
    → Tells config me st event (deeds.Ticks m)
    → Change config.clients me st (ticked_by config me st m) (cond due (Some (dummy_of st)) None) None
ticks config me st event m true is tells =
    let frame = frame-dummy config me st m is in
    let begun : begun_order config me st (deeds.Ticks m) ≡ Some (dummy_of st) = cond-true _ _ _ is in
    opens (dummy_of st) refl refl (idle-waiting me st (begun-idle config me st event (deeds.Ticks m) (dummy_of st) tells begun))
    frame.waiting (ap (λ (v : Vector). timestamp_at v me) frame.own) (λ write. absurd (cc))
ticks config me st event m false is tells =
    let frame = frame-ticked config me st m is in
    stays refl refl frame.waiting (ap (λ (v : Vector). timestamp_at v me) frame.own)

deed-changes : (config : Config) (me : ℕ) (st : Client) (event : Event) (deed : Deed) → IsClient config.clients me
    → IsClientOf config me st → IsEventFor config.clients event → Tells config me st event deed → IsDeedFor config me st deed
    → ((order : Order) → event ≡ asked order → order.kind ≡ Write → order.register ≡ me)
    → Change config.clients me st (after config me st deed) (begun_order config me st deed) (answer_of deed)
deed-changes config me st event deeds.Ignores client kept fits tells does own = stays refl refl refl refl
deed-changes config me st event (deeds.Begins order) client kept fits tells does own =
    opens order refl refl (idle-waiting me st tells.idle) refl refl (own order tells.came)
deed-changes config me st event (deeds.Completes done) client kept fits tells does own =
    completes config me st event done client kept fits tells does
deed-changes config me st event (deeds.Breaks notice) client kept fits tells does own = stays refl refl refl refl
deed-changes config me st event (deeds.Answers j) client kept fits tells does own = stays refl refl refl refl
deed-changes config me st event (deeds.Hears j known) client kept fits tells does own =
    let frame = frame-heard config.clients me st j known client does.from_another in
    stays refl refl frame.waiting (ap (λ (v : Vector). timestamp_at v me) frame.own)
deed-changes config me st event (deeds.Ticks m) client kept fits tells does own =
    ticks config me st event m (is_dummy_due config me st m) refl tells

-- An entry of client me, which holds st: what it changes, and that the client stays in range.
pub record IsChanged (config : Config) (me : ℕ) (st : Client) (entry : Entry) : Type 0 where
  pub change : Change config.clients me st (state_at config me st entry.input) (order_in entry.client entry.input entry.outcome)
      entry.outcome.answer
  pub kept : IsClientOf config me (state_at config me st entry.input)

pub entry-changes : (config : Config) (me : ℕ) (st : Client) (entry : Entry) → IsClientCount config.clients
    → IsClient config.clients me → IsClientOf config me st → IsStep config me st entry → entry.client ≡ me
    → IsChanged config me st entry
entry-changes config me st entry count client kept step own =
    let event : Event = event_of config me entry.input in
    let deed : Deed = deed_at config me st entry.input in
    let fits : IsEventFor config.clients event = event-in_range config me st entry.input count client step.may_come in
    let tells : Tells config me st event deed = deed-tells config me st event in
    let does : IsDeedFor config me st deed = deed-in_range config me st event client kept fits in
    let here : state_at config me st entry.input ≡ after config me st deed = state-here config me st entry in
    let order : order_in entry.client entry.input entry.outcome ≡ begun_order config me st deed =
    ap (λ (k : ℕ). order_in k entry.input entry.outcome) own
    ∙ order-begun config me st entry.input entry.outcome step.may_come
    (outcome-began config me st entry.input entry.outcome step.outcome_is) in
    let answer : entry.outcome.answer ≡ answer_of deed = outcome-answer config me st entry.input entry.outcome step.outcome_is in
    let change = deed-changes config me st event deed client kept fits tells does
    (λ order came. own-order config me entry.input order came) in
    record {
      change =
          subst (λ (now : Client). Change config.clients me st now (order_in entry.client entry.input entry.outcome) entry.outcome.answer)
          (sym here)
          (subst (λ (o : Option Order). Change config.clients me st (after config me st deed) o entry.outcome.answer) (sym order)
          (subst (λ (a : Option Answer). Change config.clients me st (after config me st deed) (begun_order config me st deed) a)
          (sym answer) change));
      kept = subst (IsClientOf config me) (sym here) (kept-after config me st deed client kept does);
    }
