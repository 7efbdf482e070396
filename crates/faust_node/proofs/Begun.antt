-- Which inputs a cell takes, and what the client waits for once its user began.
use Rattle.std.proofs.Common.{◌≡◌, ◌≤◌, ℕ, Bool, true, false, cond, [], ◌∷◌, length, Option, Some, None, Result, Ok, Err, nat_le, nat_lt, refl, sym, ap, ◌∙◌, subst}
use Rattle.std.proofs.lemmas.Bool.{and_from, le-leb, ltb-false}
use Rattle.faust_types.specs.declared.arrival.Closing.{Closing}
use Rattle.faust_types.specs.declared.config.Config.{Config}
use Rattle.faust_types.specs.declared.operation.Notice.{Notice}
use Rattle.faust_types.specs.declared.operation.Operation.{Operation}
use Rattle.faust_agent.specs.State.{first_client, is_idle}
use Rattle.faust_agent.specs.Table.{after, deed_of}
use Rattle.faust_agent.specs.declared.client.Client.{Client}
use Rattle.faust_agent.specs.declared.deed.Deed.TheVariants as deeds
use Rattle.faust_record.specs.Entries.{entry_at, state_at}
use Rattle.faust_record.specs.Journals.{Log}
use Rattle.faust_record.specs.Refusals.{IsInput, is_register, logged, step_of}
use Rattle.faust_record.specs.Runs.{arriving}
use Rattle.faust_record.specs.declared.entry.Entry.{Entry}
use Rattle.faust_record.specs.declared.entry.Input.{Input}
use Rattle.faust_record.specs.declared.entry.Input.TheVariants as inputs
use Rattle.faust_record.specs.declared.errors.StepError.{StepError}
use Rattle.faust_record.specs.declared.errors.StepError.TheVariants as steps
use Rattle.faust_record.proofs.Own.{replayed-append}
use Rattle.faust_node.specs.Cells.{Cell, held_by, refused_by, stopped_by}
use Rattle.faust_node.specs.Steps.{IsAsked, IsAskedFor, IsOutOfMemory, IsOutside, MayBegin, Refuses, asked_for, begin_refused_by, input_refused, order_of, step_refused}
use Rattle.faust_node.specs.declared.error.NodeError.TheVariants as errors
use Rattle.faust_node.proofs.Refused.{free-step}

-- a cell that refuses nothing
pub record IsFree (notice : Option Notice) (closed : Option Closing) (count : ℕ) : Type 0 where
  pub no_notice : notice ≡ None
  pub awake : closed ≡ None
  pub room : nat_lt count 200000 ≡ true

room-of : (b : Bool) → cond b None (Some errors.Full) ≡ None → b ≡ true
room-of true is = refl
room-of false is = absurd (cc)

pub free-of : (notice : Option Notice) (closed : Option Closing) (count : ℕ) → refused_by notice closed count ≡ None
    → IsFree notice closed count
free-of (Some notice) closed count is = absurd (cc)
free-of None (Some cause) count is = absurd (cc)
free-of None None count is = record { no_notice = refl; awake = refl; room = room-of (nat_lt count 200000) is }

-- what a user may ask for is taken by an idle client
input-free : (config : Config) (me : ℕ) (st : Client) (input : Input) → IsAsked config.clients input
    → begin_refused_by st.notice (is_idle me st) ≡ None → input_refused config me st input ≡ None
input-free config me st (inputs.Write value) asked free =
    ap (λ (b : Bool). cond b (begin_refused_by st.notice (is_idle me st)) (Some steps.TooLong)) (le-leb (length value) 4096 asked) ∙ free
input-free config me st (inputs.Read register) asked free =
    let from_one : nat_le 1 register ≡ true = le-leb 1 register asked.from_one in
    let to_n : nat_le register config.clients ≡ true = le-leb register config.clients asked.to_n in
    let inside : is_register config.clients register ≡ true = and_from (nat_le 1 register) (nat_le register config.clients) from_one to_n in
    ap (λ (b : Bool). cond b (begin_refused_by st.notice (is_idle me st)) (Some steps.NoRegister)) inside ∙ free
input-free config me st (inputs.Reply bytes) asked free = refl
input-free config me st (inputs.Peer bytes) asked free = refl
input-free config me st (inputs.Tick moment) asked free = refl
input-free config me st (inputs.Arrive message) asked free = refl

begin-free : (notice : Option Notice) (idle : Bool) → notice ≡ None → idle ≡ true → begin_refused_by notice idle ≡ None
begin-free notice idle none is = ap (λ (o : Option Notice). begin_refused_by o idle) none ∙ ap (λ (b : Bool). begin_refused_by None b) is

step-free : (log : Log) (input : Input) → nat_lt (length log.entries) 200000 ≡ true
    → input_refused log.config log.me (held_by log) input ≡ None → step_refused log input ≡ None
step-free log input room free =
    ap (λ (b : Bool). cond b (input_refused log.config log.me (held_by log) input) (Some steps.Full)) room ∙ free

pub asked-free : (n : ℕ) (cell : Cell) (input : Input) → n ≡ cell.log.config.clients → IsAsked n input → MayBegin cell
    → step_refused cell.log input ≡ None
asked-free n cell input n_is asked may =
    let st = held_by cell.log in
    let free = free-of st.notice cell.closed (length cell.log.entries) may.not_refused in
    let here : IsAsked cell.log.config.clients input = subst (λ (k : ℕ). IsAsked k input) n_is asked in
    step-free cell.log input free.room
    (input-free cell.log.config cell.log.me st input here (begin-free st.notice (is_idle cell.log.me st) free.no_notice may.idle))

-- a step that is due isn't refused, but for want of memory
clash : (log : Log) (number : ℕ) (input : Input) (new : Log) (e : StepError) → step_of log number input ≡ Ok new
    → step_of log number input ≡ Err e → ⊥
clash log number input new e ok err = absurd (cc)

pub only-memory : (e : StepError) (old new : Cell) (input : Input) → step_refused old.log input ≡ None → Refuses e old new input
    → IsOutOfMemory old new
only-memory steps.Full old new input free refused =
    absurd (clash old.log 0 input (logged old.log (entry_at old.log.config old.log.me (held_by old.log) 0 input)) steps.Full
    (free-step old.log 0 input free) (refused.refused 0))
only-memory steps.TooLong old new input free refused =
    absurd (clash old.log 0 input (logged old.log (entry_at old.log.config old.log.me (held_by old.log) 0 input)) steps.TooLong
    (free-step old.log 0 input free) (refused.refused 0))
only-memory steps.NoRegister old new input free refused =
    absurd (clash old.log 0 input (logged old.log (entry_at old.log.config old.log.me (held_by old.log) 0 input)) steps.NoRegister
    (free-step old.log 0 input free) (refused.refused 0))
only-memory (steps.Failed notice) old new input free refused =
    absurd (clash old.log 0 input (logged old.log (entry_at old.log.config old.log.me (held_by old.log) 0 input)) (steps.Failed notice)
    (free-step old.log 0 input free) (refused.refused 0))
only-memory steps.Busy old new input free refused =
    absurd (clash old.log 0 input (logged old.log (entry_at old.log.config old.log.me (held_by old.log) 0 input)) steps.Busy
    (free-step old.log 0 input free) (refused.refused 0))
only-memory steps.OutOfMemory old new input free refused = refused

-- what comes from outside is an input of the journal, and only a full journal refuses it
pub outside-own : (input : Input) → IsOutside input → arriving input ≡ None
outside-own (inputs.Write value) outside = refl
outside-own (inputs.Read register) outside = refl
outside-own (inputs.Reply bytes) outside = refl
outside-own (inputs.Peer bytes) outside = refl
outside-own (inputs.Tick moment) outside = refl
outside-own (inputs.Arrive message) outside = absurd outside

pub outside-input : (input : Input) → IsOutside input → IsInput input
outside-input (inputs.Write value) outside = tt
outside-input (inputs.Read register) outside = tt
outside-input (inputs.Reply bytes) outside = outside
outside-input (inputs.Peer bytes) outside = outside
outside-input (inputs.Tick moment) outside = outside
outside-input (inputs.Arrive message) outside = tt

pub asked-own : (n : ℕ) (input : Input) → IsAsked n input → arriving input ≡ None
asked-own n (inputs.Write value) asked = refl
asked-own n (inputs.Read register) asked = refl
asked-own n (inputs.Reply bytes) asked = refl
asked-own n (inputs.Peer bytes) asked = refl
asked-own n (inputs.Tick moment) asked = refl
asked-own n (inputs.Arrive message) asked = absurd asked

pub asked-input : (n : ℕ) (input : Input) → IsAsked n input → IsInput input
asked-input n (inputs.Write value) asked = tt
asked-input n (inputs.Read register) asked = tt
asked-input n (inputs.Reply bytes) asked = absurd asked
asked-input n (inputs.Peer bytes) asked = absurd asked
asked-input n (inputs.Tick moment) asked = absurd asked
asked-input n (inputs.Arrive message) asked = tt

outside-free : (config : Config) (me : ℕ) (st : Client) (input : Input) → IsOutside input → input_refused config me st input ≡ None
outside-free config me st (inputs.Write value) outside = absurd outside
outside-free config me st (inputs.Read register) outside = absurd outside
outside-free config me st (inputs.Reply bytes) outside = refl
outside-free config me st (inputs.Peer bytes) outside = refl
outside-free config me st (inputs.Tick moment) outside = refl
outside-free config me st (inputs.Arrive message) outside = refl

-- where an input from outside was refused, the journal was full and nothing changed
pub record IsFullAndSame (old new : Cell) : Type 0 where
  pub full : 200000 ≤ length old.log.entries
  pub same : new ≡ old

full-by : (b : Bool) (old new : Cell) (input : Input) (e : StepError) → nat_lt (length old.log.entries) 200000 ≡ b → IsOutside input
    → ((number : ℕ) → step_of old.log number input ≡ Err e) → new ≡ old → IsFullAndSame old new
full-by true old new input e room outside refused same =
    let free = step-free old.log input room (outside-free old.log.config old.log.me (held_by old.log) input outside) in
    absurd (clash old.log 0 input (logged old.log (entry_at old.log.config old.log.me (held_by old.log) 0 input)) e
    (free-step old.log 0 input free) (refused 0))
full-by false old new input e room outside refused same = record { full = ltb-false (length old.log.entries) 200000 room; same = same }

pub outside-refused : (e : StepError) (old new : Cell) (input : Input) → (e ≡ steps.OutOfMemory → ⊥) → IsOutside input
    → Refuses e old new input → IsFullAndSame old new
outside-refused steps.Full old new input not_memory outside refused =
    full-by (nat_lt (length old.log.entries) 200000) old new input steps.Full refl outside refused.refused refused.same
outside-refused steps.TooLong old new input not_memory outside refused =
    full-by (nat_lt (length old.log.entries) 200000) old new input steps.TooLong refl outside refused.refused refused.same
outside-refused steps.NoRegister old new input not_memory outside refused =
    full-by (nat_lt (length old.log.entries) 200000) old new input steps.NoRegister refl outside refused.refused refused.same
outside-refused (steps.Failed notice) old new input not_memory outside refused =
    full-by (nat_lt (length old.log.entries) 200000) old new input (steps.Failed notice) refl outside refused.refused refused.same
outside-refused steps.Busy old new input not_memory outside refused =
    full-by (nat_lt (length old.log.entries) 200000) old new input steps.Busy refl outside refused.refused refused.same
outside-refused steps.OutOfMemory old new input not_memory outside refused = absurd (not_memory refl)

-- what the client waits for after its user began
begun-waits : (config : Config) (me : ℕ) (st : Client) (input : Input) → IsAsked config.clients input → is_idle me st ≡ true
    → (state_at config me st input).waiting ≡ Some (asked_for me st input)
unfolding state_at deed_of
begun-waits config me st (inputs.Write value) asked idle =
    ap (λ (b : Bool). (after config me st (cond b (deeds.Begins (order_of me (inputs.Write value))) deeds.Ignores)).waiting) idle
begun-waits config me st (inputs.Read register) asked idle =
    ap (λ (b : Bool). (after config me st (cond b (deeds.Begins (order_of me (inputs.Read register))) deeds.Ignores)).waiting) idle
begun-waits config me st (inputs.Reply bytes) asked idle = absurd asked
begun-waits config me st (inputs.Peer bytes) asked idle = absurd asked
begun-waits config me st (inputs.Tick moment) asked idle = absurd asked
begun-waits config me st (inputs.Arrive message) asked idle = absurd asked

held-logged : (log : Log) (e : Entry) → held_by (logged log e) ≡ state_at log.config log.me (held_by log) e.input
held-logged log e = replayed-append log.config log.me (first_client log.config.clients log.me) log.entries (e ∷ [])

ok-same : (a b : Log) (r : Result Log StepError) → r ≡ Ok a → r ≡ Ok b → a ≡ b
ok-same a b r first second = cc

pub log-waits : (n : ℕ) (old : Cell) (new : Log) (number : ℕ) (input : Input) (op : Operation) → n ≡ old.log.config.clients
    → IsAsked n input → MayBegin old → step_of old.log number input ≡ Ok new → op ≡ asked_for old.log.me (held_by old.log) input
    → (held_by new).waiting ≡ Some op
log-waits n old new number input op n_is asked may ok op_is =
    let log = old.log in
    let st = held_by log in
    let entry : Entry = entry_at log.config log.me st number input in
    let same : logged log entry ≡ new =
    ok-same (logged log entry) new (step_of log number input) (free-step log number input (asked-free n old input n_is asked may)) ok in
    let here : IsAsked log.config.clients input = subst (λ (k : ℕ). IsAsked k input) n_is asked in
    ap (λ (l : Log). (held_by l).waiting) (sym same)
    ∙ ap (λ (c : Client). c.waiting) (held-logged log entry)
    ∙ begun-waits log.config log.me st input here may.idle
    ∙ ap (λ (o : Operation). Some o) (sym op_is)

pub asked-kind : (me : ℕ) (st : Client) (input : Input) (op : Operation) → op ≡ asked_for me st input → IsAskedFor input op
asked-kind me st (inputs.Write value) op op_is = ap (λ (o : Operation). o.kind) op_is
asked-kind me st (inputs.Read register) op op_is = (ap (λ (o : Operation). o.kind) op_is, ap (λ (o : Operation). o.register) op_is)
asked-kind me st (inputs.Reply bytes) op op_is = tt
asked-kind me st (inputs.Peer bytes) op op_is = tt
asked-kind me st (inputs.Tick moment) op op_is = tt
asked-kind me st (inputs.Arrive message) op op_is = tt

-- an open cell has no cause to stop for
pub stop-open : (notice : Option Notice) (closed : Option Closing) → stopped_by notice closed ≡ None → closed ≡ None
stop-open notice None is = refl
stop-open notice (Some cause) is = absurd (cc)
