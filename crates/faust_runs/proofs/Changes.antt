-- What an entry adds to the operations that began and to those that completed, read off its input and its outcome.
use Rattle.std.proofs.Common.{◌≡◌, ℕ, Bool, true, false, cond, List, ◌∷◌, Option, Some, None, option_map, refl, sym, ap, ◌∙◌, subst}
use Rattle.std.proofs.lemmas.Bool.{and_parts, cond-true}
use Rattle.faust_types.specs.declared.config.Config.{Config}
use Rattle.faust_types.specs.declared.operation.Answer.{Answer}
use Rattle.faust_types.specs.declared.operation.Operation.{Operation}
use Rattle.faust_types.specs.declared.message.PeerMessage.{PeerMessage}
use Rattle.faust_types.specs.declared.message.Reply.{Reply}
use Rattle.faust_types.specs.declared.outcome.Outcome.{Outcome}
use Rattle.faust_agent.specs.State.{is_idle}
use Rattle.faust_agent.specs.Deeds.{Event, asked, passed, peer_in, read_of, replied, reply_in, ticked, told, write_of}
use Rattle.faust_agent.specs.Table.{answer_of, began_of, deed_of, dummy_of, is_dummy_due, operation_of}
use Rattle.faust_agent.specs.Outcomes.{outcome_of}
use Rattle.faust_agent.specs.Tells.{Tells}
use Rattle.faust_agent.specs.declared.client.Client.{Client}
use Rattle.faust_agent.specs.declared.deed.Completion.{Completion}
use Rattle.faust_agent.specs.declared.deed.Order.{Order}
use Rattle.faust_agent.specs.declared.deed.Deed.{Deed}
use Rattle.faust_agent.specs.declared.deed.Deed.TheVariants as deeds
use Rattle.faust_agent.proofs.Reasons.{deed-tells}
use Rattle.faust_forks.specs.Books.{Begun}
use Rattle.faust_forks.specs.Pasts.{Past, begun_at, done_at}
use Rattle.faust_record.specs.Entries.{MayCome, deed_at, event_of, outcome_at}
use Rattle.faust_record.specs.Operations.{dummy_read_of, order_in}
use Rattle.faust_record.specs.declared.entry.Input.{Input}
use Rattle.faust_record.specs.declared.entry.Input.TheVariants as inputs
use Rattle.faust_record.specs.declared.entry.Entry.{Entry}
use Rattle.faust_premises.specs.Premises.{hashed_inputs}
use Rattle.faust_runs.specs.ForkViews.{reply_at}
use Rattle.faust_runs.specs.Ledgers.{client_after, completing, hashing, past_by, past_with, posting, ticking}
use Rattle.faust_runs.specs.Sound.{IsSoundLedger}
use Rattle.faust_types.specs.Clients.{IsClientCount}
use Rattle.faust_runs.proofs.Completions.{IsFinish, is-finish}
use Rattle.faust_runs.proofs.Leading.{IsComing}
use Rattle.faust_runs.proofs.Stepping.{IsPlayed, is-coming, past-here}

-- what a deed begins
abbrev pub begun_order : Config → ℕ → Client → Deed → Option Order
begun_order config me st deeds.Ignores = None
begun_order config me st (deeds.Begins order) = Some order
begun_order config me st (deeds.Completes done) = None
begun_order config me st (deeds.Breaks notice) = None
begun_order config me st (deeds.Answers j) = None
begun_order config me st (deeds.Hears j known) = None
begun_order config me st (deeds.Ticks m) = cond (is_dummy_due config me st m) (Some (dummy_of st)) None

asked-ticked : (order : Order) (m : ℕ) → ticked m ≡ asked order → ⊥
asked-ticked order m h = cc

-- where an event is neither an order nor a moment, nothing begins
none-begun : (config : Config) (me : ℕ) (st : Client) (event : Event) (deed : Deed) → ((order : Order) → event ≡ asked order → ⊥)
    → ((m : ℕ) → event ≡ ticked m → ⊥) → Tells config me st event deed → None ≡ begun_order config me st deed
none-begun config me st event deeds.Ignores unasked unticked tells = refl
none-begun config me st event (deeds.Begins order) unasked unticked tells = absurd (unasked order tells.came)
none-begun config me st event (deeds.Completes done) unasked unticked tells = refl
none-begun config me st event (deeds.Breaks notice) unasked unticked tells = refl
none-begun config me st event (deeds.Answers j) unasked unticked tells = refl
none-begun config me st event (deeds.Hears j known) unasked unticked tells = refl
none-begun config me st event (deeds.Ticks m) unasked unticked tells = absurd (unticked m tells.came)

due-begun : (me : ℕ) (st : Client) (due : Bool)
    → option_map dummy_read_of (cond due (Some (operation_of me st (dummy_of st))) None) ≡ cond due (Some (dummy_of st)) None
due-begun me st true = refl
due-begun me st false = refl

-- a moment begins a dummy read, or nothing
ticked-begun : (config : Config) (me : ℕ) (st : Client) (m : ℕ) (deed : Deed) → Tells config me st (ticked m) deed
    → option_map dummy_read_of (began_of config me st deed) ≡ begun_order config me st deed
ticked-begun config me st m deeds.Ignores tells = refl
ticked-begun config me st m (deeds.Begins order) tells = absurd (asked-ticked order m tells.came)
ticked-begun config me st m (deeds.Completes done) tells = refl
ticked-begun config me st m (deeds.Breaks notice) tells = refl
ticked-begun config me st m (deeds.Answers j) tells = refl
ticked-begun config me st m (deeds.Hears j known) tells = refl
ticked-begun config me st m (deeds.Ticks moment) tells = due-begun me st (is_dummy_due config me st moment)

-- an order begins, where its client is idle
order-deed : (config : Config) (me : ℕ) (st : Client) (order : Order) → is_idle me st ≡ true
    → deed_of config me st (asked order) ≡ deeds.Begins order
unfolding deed_of
order-deed config me st order idle = cond-true _ _ _ idle

pub order-begun : (config : Config) (me : ℕ) (st : Client) (input : Input) (outcome : Outcome) → MayCome config me st input
    → outcome.began ≡ began_of config me st (deed_at config me st input)
    → order_in me input outcome ≡ begun_order config me st (deed_at config me st input)
order-begun config me st (inputs.Write value) outcome may began =
    ap (begun_order config me st) (sym (order-deed config me st (write_of me value) may.idle))
order-begun config me st (inputs.Read register) outcome may began =
    ap (begun_order config me st) (sym (order-deed config me st (read_of register false) may.idle))
order-begun config me st (inputs.Reply bytes) outcome may began =
    none-begun config me st (replied (reply_in config bytes)) _ (λ order h. absurd (cc)) (λ m h. absurd (cc))
    (deed-tells config me st (replied (reply_in config bytes)))
order-begun config me st (inputs.Peer bytes) outcome may began =
    none-begun config me st (told (peer_in config bytes)) _ (λ order h. absurd (cc)) (λ m h. absurd (cc))
    (deed-tells config me st (told (peer_in config bytes)))
order-begun config me st (inputs.Tick moment) outcome may began =
    ap (option_map dummy_read_of) began ∙ ticked-begun config me st moment _ (deed-tells config me st (ticked moment))
order-begun config me st (inputs.Arrive message) outcome may began =
    none-begun config me st passed _ (λ order h. absurd (cc)) (λ m h. absurd (cc)) (deed-tells config me st passed)

-- what the ledger has then
abbrev pub started_with : Past → ℕ → Client → Option Order → List Begun
started_with past me st None = past.started
started_with past me st (Some order) = begun_at past me (operation_of me st order) order.value ∷ past.started

completing-started : (past : Past) (me : ℕ) (op : Operation) (reply : Option Reply) → (completing past me op reply).started ≡ past.started
completing-started past me op None = refl
completing-started past me op (Some reply) = refl

ticking-started : (past : Past) (me : ℕ) (st : Client) (messages : List PeerMessage) (due : Bool)
    → (ticking (posting past messages) me st due).started ≡ started_with past me st (cond due (Some (dummy_of st)) None)
ticking-started past me st messages true = refl
ticking-started past me st messages false = refl

pub deed-started : (config : Config) (past : Past) (me : ℕ) (st : Client) (reply : Option Reply) (deed : Deed)
    → (past_by config past me st reply deed).started ≡ started_with past me st (begun_order config me st deed)
deed-started config past me st reply deeds.Ignores = refl
deed-started config past me st reply (deeds.Begins order) = refl
deed-started config past me st reply (deeds.Completes done) = completing-started past me done.op reply
deed-started config past me st reply (deeds.Breaks notice) = refl
deed-started config past me st reply (deeds.Answers j) = refl
deed-started config past me st reply (deeds.Hears j known) = refl
deed-started config past me st reply (deeds.Ticks m) = ticking-started past me st _ (is_dummy_due config me st m)

due-idle : (config : Config) (me : ℕ) (st : Client) (m : ℕ) (due : Bool) (order : Order) → is_dummy_due config me st m ≡ due
    → cond due (Some (dummy_of st)) None ≡ Some order → is_idle me st ≡ true
due-idle config me st m true order is h = (and_parts _ _ is).0
due-idle config me st m false order is h = absurd (cc)

-- what begins, begins at an idle client
pub begun-idle : (config : Config) (me : ℕ) (st : Client) (event : Event) (deed : Deed) (order : Order) → Tells config me st event deed
    → begun_order config me st deed ≡ Some order → is_idle me st ≡ true
begun-idle config me st event deeds.Ignores order tells is = absurd (cc)
begun-idle config me st event (deeds.Begins begun) order tells is = tells.idle
begun-idle config me st event (deeds.Completes done) order tells is = absurd (cc)
begun-idle config me st event (deeds.Breaks notice) order tells is = absurd (cc)
begun-idle config me st event (deeds.Answers j) order tells is = absurd (cc)
begun-idle config me st event (deeds.Hears j known) order tells is = absurd (cc)
begun-idle config me st event (deeds.Ticks m) order tells is = due-idle config me st m (is_dummy_due config me st m) order refl is

-- An operation begins in an entry, or none does.
pub data Opens (past later : Past) (me : ℕ) (st : Client) (entry : Entry) : Type 0 where
  opens_none : order_in me entry.input entry.outcome ≡ None → later.started ≡ past.started → Opens past later me st entry
  opens : (order : Order) → order_in me entry.input entry.outcome ≡ Some order
      → later.started ≡ begun_at past me (operation_of me st order) order.value ∷ past.started → is_idle me st ≡ true
      → Opens past later me st entry

opens-by : (past later : Past) (me : ℕ) (st : Client) (entry : Entry) (order : Option Order)
    → order_in me entry.input entry.outcome ≡ order → later.started ≡ started_with past me st order
    → ((begun : Order) → order ≡ Some begun → is_idle me st ≡ true) → Opens past later me st entry
opens-by past later me st entry None is started idle = opens_none is started
opens-by past later me st entry (Some order) is started idle = opens order is started (idle order refl)

pub outcome-began : (config : Config) (me : ℕ) (st : Client) (input : Input) (outcome : Outcome)
    → outcome ≡ outcome_at config me st input → outcome.began ≡ began_of config me st (deed_at config me st input)
unfolding outcome_at outcome_of
outcome-began config me st input outcome is = ap (λ (o : Outcome). o.began) is

pub outcome-answer : (config : Config) (me : ℕ) (st : Client) (input : Input) (outcome : Outcome)
    → outcome ≡ outcome_at config me st input → outcome.answer ≡ answer_of (deed_at config me st input)
unfolding outcome_at outcome_of
outcome-answer config me st input outcome is = ap (λ (o : Outcome). o.answer) is

pub entry-opens : (config : Config) (before : List Entry) (entry : Entry) (past : Past) → IsPlayed config before entry
    → Opens past (past_with config past before entry) entry.client (client_after config entry.client before) entry
entry-opens config before entry past played =
    let me = entry.client in
    let st = client_after config me before in
    let more = hashing past (hashed_inputs config before entry) in
    let deed : Deed = deed_at config me st entry.input in
    let tells : Tells config me st (event_of config me entry.input) deed = deed-tells config me st (event_of config me entry.input) in
    opens-by past (past_with config past before entry) me st entry (begun_order config me st deed)
    (order-begun config me st entry.input entry.outcome played.step.may_come
    (outcome-began config me st entry.input entry.outcome played.step.outcome_is))
    (ap (λ (p : Past). p.started) (past-here config past before entry)
    ∙ deed-started config more me st (reply_at config entry.input) deed)
    (λ order is. begun-idle config me st (event_of config me entry.input) deed order tells is)

-- An operation completes in an entry, or none does.
abbrev pub answer_to : Completion → Answer
answer_to done = record { op = done.op; value = done.judged.value; asof = done.judged.asof }

pub data Closes (config : Config) (past more later : Past) (me : ℕ) (st : Client) (entry : Entry) : Type 0 where
  closes_none : entry.outcome.answer ≡ None → later.book ≡ past.book → Closes config past more later me st entry
  closes : (done : Completion) (reply : Reply) → entry.outcome.answer ≡ Some (answer_to done)
      → IsFinish config more me st entry.input done reply → later.book ≡ done_at past me done.op reply ∷ past.book
      → Closes config past more later me st entry

ticking-book : (past : Past) (me : ℕ) (st : Client) (messages : List PeerMessage) (due : Bool)
    → (ticking (posting past messages) me st due).book ≡ past.book
ticking-book past me st messages true = refl
ticking-book past me st messages false = refl

deed-closes : (config : Config) (past : Past) (inputs : List (List ℕ)) (me : ℕ) (st : Client) (entry : Entry) (deed : Deed)
    → IsComing config (hashing past inputs) me st entry.input → Tells config me st (event_of config me entry.input) deed
    → entry.outcome.answer ≡ answer_of deed
    → Closes config past (hashing past inputs) (past_by config (hashing past inputs) me st (reply_at config entry.input) deed) me st entry
deed-closes config past inputs me st entry deeds.Ignores coming tells answer = closes_none answer refl
deed-closes config past inputs me st entry (deeds.Begins order) coming tells answer = closes_none answer refl
deed-closes config past inputs me st entry (deeds.Completes done) coming tells answer =
    let more = hashing past inputs in
    let finish = is-finish config more me st entry.input done coming tells in
    closes done tells.reply answer finish
    (ap (λ (r : Option Reply). (completing more me done.op r).book) finish.came)
deed-closes config past inputs me st entry (deeds.Breaks notice) coming tells answer = closes_none answer refl
deed-closes config past inputs me st entry (deeds.Answers j) coming tells answer = closes_none answer refl
deed-closes config past inputs me st entry (deeds.Hears j known) coming tells answer = closes_none answer refl
deed-closes config past inputs me st entry (deeds.Ticks m) coming tells answer =
    closes_none answer (ticking-book (hashing past inputs) me st _ (is_dummy_due config me st m))

pub entry-closes : (config : Config) (before : List Entry) (entry : Entry) (past : Past) → IsClientCount config.clients
    → IsSoundLedger config before past → IsPlayed config before entry
    → Closes config past (hashing past (hashed_inputs config before entry)) (past_with config past before entry) entry.client
    (client_after config entry.client before) entry
entry-closes config before entry past count sound played =
    let me = entry.client in
    let st = client_after config me before in
    let more = hashing past (hashed_inputs config before entry) in
    let deed : Deed = deed_at config me st entry.input in
    subst (λ (p : Past). Closes config past more p me st entry) (sym (past-here config past before entry))
    (deed-closes config past (hashed_inputs config before entry) me st entry deed (is-coming config before entry past count sound played)
    (deed-tells config me st (event_of config me entry.input))
    (outcome-answer config me st entry.input entry.outcome played.step.outcome_is))
