-- When a journal's step is refused, and what it leaves.
use Rattle.std.proofs.Common.{◌≡◌, ◌<◌, ℕ, Bool, true, false, cond, length, Option, Some, None, Result, Ok, Err, nat_le, nat_lt, refl, sym, ap, ◌∙◌}
use Rattle.std.proofs.lemmas.Bool.{ltb-true}
use Rattle.faust_types.specs.declared.config.Config.{Config}
use Rattle.faust_types.specs.declared.operation.Notice.{Notice}
use Rattle.faust_agent.specs.State.{is_idle}
use Rattle.faust_agent.specs.declared.client.Client.{Client}
use Rattle.faust_record.specs.Entries.{entry_at}
use Rattle.faust_record.specs.Journals.{Log}
use Rattle.faust_record.specs.Refusals.{StepRefuses, as_step_error, is_register, logged, logged_unless, refusal_at, step_of}
use Rattle.faust_record.specs.Refusals as client
use Rattle.faust_record.specs.declared.entry.Entry.{Entry}
use Rattle.faust_record.specs.declared.entry.Input.{Input}
use Rattle.faust_record.specs.declared.entry.Input.TheVariants as inputs
use Rattle.faust_record.specs.declared.errors.Refusal.{Refusal}
use Rattle.faust_record.specs.declared.errors.Refusal.TheVariants as refusals
use Rattle.faust_record.specs.declared.errors.StepError.{StepError}
use Rattle.faust_record.specs.declared.errors.StepError.TheVariants as steps
use Rattle.faust_node.specs.Cells.{Cell, held_by}
use Rattle.faust_node.specs.Steps.{Refuses, begin_refused_by, input_refused, step_refused}

-- a client's refusal as one of the journal's
abbrev as_refused : Option Refusal → Option StepError
as_refused None = None
as_refused (Some refusal) = Some (as_step_error refusal)

inside : (b : Bool) (x y : Option Refusal) → cond b (as_refused x) (as_refused y) ≡ as_refused (cond b x y)
inside true x y = refl
inside false x y = refl

begin-same : (notice : Option Notice) (idle : Bool) → begin_refused_by notice idle ≡ as_refused (client.begin_refused_by notice idle)
begin-same None true = refl
begin-same None false = refl
begin-same (Some notice) idle = refl

input-same : (config : Config) (me : ℕ) (st : Client) (input : Input)
    → input_refused config me st input ≡ as_refused (refusal_at config me st input)
input-same config me st (inputs.Write value) =
    ap (λ (r : Option StepError). cond (nat_le (length value) 4096) r (Some steps.TooLong)) (begin-same st.notice (is_idle me st))
    ∙ inside (nat_le (length value) 4096) (client.begin_refused_by st.notice (is_idle me st)) (Some refusals.TooLong)
input-same config me st (inputs.Read register) =
    ap (λ (r : Option StepError). cond (is_register config.clients register) r (Some steps.NoRegister))
    (begin-same st.notice (is_idle me st))
    ∙ inside (is_register config.clients register) (client.begin_refused_by st.notice (is_idle me st)) (Some refusals.NoRegister)
input-same config me st (inputs.Reply bytes) = refl
input-same config me st (inputs.Peer bytes) = refl
input-same config me st (inputs.Tick moment) = refl
input-same config me st (inputs.Arrive message) = refl

refused-at : (b : Bool) (log : Log) (entry : Entry) (refusal : Option Refusal) (e : StepError)
    → cond b (as_refused refusal) (Some steps.Full) ≡ Some e → cond b (logged_unless log entry refusal) (Err steps.Full) ≡ Err e
refused-at true log entry None e is = absurd (cc)
refused-at true log entry (Some refusal) e is = cc
refused-at false log entry refusal e is = cc

pub refused-step : (log : Log) (input : Input) (e : StepError) → step_refused log input ≡ Some e
    → (number : ℕ) → step_of log number input ≡ Err e
unfolding step_of
refused-step log input e is number =
    let st = held_by log in
    let refusal : Option Refusal = refusal_at log.config log.me st input in
    let same : cond (nat_lt (length log.entries) 200000) (as_refused refusal) (Some steps.Full) ≡ Some e =
    sym (ap (λ (r : Option StepError). cond (nat_lt (length log.entries) 200000) r (Some steps.Full))
    (input-same log.config log.me st input)) ∙ is in
    refused-at (nat_lt (length log.entries) 200000) log (entry_at log.config log.me st number input) refusal e same

free-at : (b : Bool) (log : Log) (entry : Entry) (refusal : Option Refusal)
    → cond b (as_refused refusal) (Some steps.Full) ≡ None
    → cond b (logged_unless log entry refusal) (Err steps.Full) ≡ Ok (logged log entry)
free-at true log entry None is = refl
free-at true log entry (Some refusal) is = absurd (cc)
free-at false log entry refusal is = absurd (cc)

pub free-step : (log : Log) (number : ℕ) (input : Input) → step_refused log input ≡ None
    → step_of log number input ≡ Ok (logged log (entry_at log.config log.me (held_by log) number input))
unfolding step_of
free-step log number input is =
    let st = held_by log in
    let refusal : Option Refusal = refusal_at log.config log.me st input in
    let same : cond (nat_lt (length log.entries) 200000) (as_refused refusal) (Some steps.Full) ≡ None =
    sym (ap (λ (r : Option StepError). cond (nat_lt (length log.entries) 200000) r (Some steps.Full))
    (input-same log.config log.me st input)) ∙ is in
    free-at (nat_lt (length log.entries) 200000) log (entry_at log.config log.me st number input) refusal same

-- what is refused stays
pub refused-same : (e : StepError) (old new : Log) (due : Result Log StepError) → StepRefuses e old new due → new ≡ old
refused-same steps.Full old new due refused = refused.0
refused-same steps.TooLong old new due refused = refused.0
refused-same steps.NoRegister old new due refused = refused.0
refused-same (steps.Failed notice) old new due refused = refused.0
refused-same steps.Busy old new due refused = refused.0
refused-same steps.OutOfMemory old new due refused = refused

-- want of memory is no refusal that can be foreseen
begin-never : (notice : Option Notice) (idle : Bool) → begin_refused_by notice idle ≡ Some steps.OutOfMemory → ⊥
begin-never None true is = absurd (cc)
begin-never None false is = absurd (cc)
begin-never (Some notice) idle is = absurd (cc)

cond-never : (b : Bool) (x y : Option StepError) → (x ≡ Some steps.OutOfMemory → ⊥) → (y ≡ Some steps.OutOfMemory → ⊥)
    → cond b x y ≡ Some steps.OutOfMemory → ⊥
cond-never true x y left right is = left is
cond-never false x y left right is = right is

long-never : Some steps.TooLong ≡ Some steps.OutOfMemory → ⊥
long-never is = absurd (cc)

register-never : Some steps.NoRegister ≡ Some steps.OutOfMemory → ⊥
register-never is = absurd (cc)

full-never : Some steps.Full ≡ Some steps.OutOfMemory → ⊥
full-never is = absurd (cc)

none-never : None ≡ Some steps.OutOfMemory → ⊥
none-never is = absurd (cc)

input-never : (config : Config) (me : ℕ) (st : Client) (input : Input) → input_refused config me st input ≡ Some steps.OutOfMemory → ⊥
input-never config me st (inputs.Write value) is =
    cond-never (nat_le (length value) 4096) (begin_refused_by st.notice (is_idle me st)) (Some steps.TooLong)
    (begin-never st.notice (is_idle me st)) long-never is
input-never config me st (inputs.Read register) is =
    cond-never (is_register config.clients register) (begin_refused_by st.notice (is_idle me st)) (Some steps.NoRegister)
    (begin-never st.notice (is_idle me st)) register-never is
input-never config me st (inputs.Reply bytes) is = none-never is
input-never config me st (inputs.Peer bytes) is = none-never is
input-never config me st (inputs.Tick moment) is = none-never is
input-never config me st (inputs.Arrive message) is = none-never is

step-never : (log : Log) (input : Input) → step_refused log input ≡ Some steps.OutOfMemory → ⊥
step-never log input is =
    cond-never (nat_lt (length log.entries) 200000) (input_refused log.config log.me (held_by log) input) (Some steps.Full)
    (input-never log.config log.me (held_by log) input) full-never is

-- what a cell answers where its journal refuses a step
pub cell-refuses : (e : StepError) (old new : Cell) (input : Input) → step_refused old.log input ≡ Some e → new ≡ old
    → Refuses e old new input
cell-refuses steps.Full old new input is same = record { refused = refused-step old.log input steps.Full is; same = same }
cell-refuses steps.TooLong old new input is same = record { refused = refused-step old.log input steps.TooLong is; same = same }
cell-refuses steps.NoRegister old new input is same = record { refused = refused-step old.log input steps.NoRegister is; same = same }
cell-refuses (steps.Failed notice) old new input is same =
    record { refused = refused-step old.log input (steps.Failed notice) is; same = same }
cell-refuses steps.Busy old new input is same = record { refused = refused-step old.log input steps.Busy is; same = same }
cell-refuses steps.OutOfMemory old new input is same = absurd (step-never old.log input is)

room-at : (b : Bool) (r : Option StepError) → cond b r (Some steps.Full) ≡ None → b ≡ true
room-at true r is = refl
room-at false r is = absurd (cc)

pub few-entries : (log : Log) (input : Input) → step_refused log input ≡ None → length log.entries < 200000
few-entries log input is =
    ltb-true (length log.entries) 200000
    (room-at (nat_lt (length log.entries) 200000) (input_refused log.config log.me (held_by log) input) is)
