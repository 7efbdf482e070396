-- What appending an entry answers: the first refusal that holds, or the longer list. The calls of journals and records
-- rest on it.
use Rattle.std.specs.Prelude.{◌≡◌, ◌≤◌, ℕ, ◌&&◌, Bool, List, [], ◌∷◌, ◌++◌, length, Option, Some, None, Result, Ok, Err, nat_le, nat_lt, if◌then◌else◌}
use Rattle.faust_types.specs.Ranges.{IsMoment}
use Rattle.faust_types.specs.declared.config.Config.{Config}
use Rattle.faust_types.specs.declared.operation.Notice.{Notice}
use Rattle.faust_agent.specs.State.{is_idle}
use Rattle.faust_agent.specs.declared.client.Client.{Client}
use Rattle.faust_record.specs.Entries.{arrival_at, entry_at, replay}
use Rattle.faust_record.specs.Runs.{Run, entries_of, next_message}
use Rattle.faust_record.specs.Journals.{Log}
use Rattle.faust_record.specs.declared.entry.Input.{Input}
use Rattle.faust_record.specs.declared.entry.Input.TheVariants as inputs
use Rattle.faust_record.specs.declared.entry.Entry.{Entry}
use Rattle.faust_record.specs.declared.errors.Refusal.{Refusal}
use Rattle.faust_record.specs.declared.errors.Refusal.TheVariants as refusals
use Rattle.faust_record.specs.declared.errors.StepError.{StepError}
use Rattle.faust_record.specs.declared.errors.StepError.TheVariants as steps
use Rattle.faust_record.specs.declared.errors.PushError.{PushError}
use Rattle.faust_record.specs.declared.errors.PushError.TheVariants as pushes
use Rattle.faust_record.specs.declared.run_record.PushInput.{PushInput}
use Rattle.faust_record.specs.declared.run_record.PushInput.TheVariants as given

-- What callers owe of an input: bytes of a message have at most 16,384 bytes, and a moment is in range.
abbrev pub IsInput : Input → Type 0
IsInput (inputs.Write value) = Unit {0}
IsInput (inputs.Read register) = Unit {0}
IsInput (inputs.Reply bytes) = length bytes ≤ 16384
IsInput (inputs.Peer bytes) = length bytes ≤ 16384
IsInput (inputs.Tick moment) = IsMoment moment
IsInput (inputs.Arrive message) = Unit {0}

abbrev pub IsPushInput : PushInput → Type 0
IsPushInput (given.Write value) = Unit {0}
IsPushInput (given.Read register) = Unit {0}
IsPushInput (given.Reply bytes) = length bytes ≤ 16384
IsPushInput (given.Peer bytes) = length bytes ≤ 16384
IsPushInput (given.Tick moment) = IsMoment moment
IsPushInput given.Arrive = Unit {0}

-- A client refuses to begin where it has a notice, else where it isn't idle: an operation is pending, or the own
-- timestamp is 2^40 - 1.
abbrev pub begin_refused_by : Option Notice → Bool → Option Refusal
begin_refused_by (Some notice) idle = Some (refusals.Failed notice)
begin_refused_by None idle = if idle then None else Some refusals.Busy

abbrev pub begin_refused : ℕ → Client → Option Refusal
begin_refused me st = begin_refused_by st.notice (is_idle me st)

abbrev pub is_register : ℕ → ℕ → Bool
is_register n register = nat_le 1 register && nat_le register n

-- Why an input is refused at client me that holds st, if it is.
abbrev pub refusal_at : Config → ℕ → Client → Input → Option Refusal
refusal_at config me st (inputs.Write value) =
    if nat_le (length value) 4096 then begin_refused me st else Some refusals.TooLong
refusal_at config me st (inputs.Read register) =
    if is_register config.clients register then begin_refused me st else Some refusals.NoRegister
refusal_at config me st (inputs.Reply bytes) = None
refusal_at config me st (inputs.Peer bytes) = None
refusal_at config me st (inputs.Tick moment) = None
refusal_at config me st (inputs.Arrive message) = None

-- The same as answers of both calls.
abbrev pub as_step_error : Refusal → StepError
as_step_error refusals.TooLong = steps.TooLong
as_step_error refusals.NoRegister = steps.NoRegister
as_step_error (refusals.Failed notice) = steps.Failed notice
as_step_error refusals.Busy = steps.Busy
as_step_error refusals.OutOfMemory = steps.OutOfMemory

abbrev pub as_push_error : Refusal → PushError
as_push_error refusals.TooLong = pushes.TooLong
as_push_error refusals.NoRegister = pushes.NoRegister
as_push_error (refusals.Failed notice) = pushes.Failed notice
as_push_error refusals.Busy = pushes.Busy
as_push_error refusals.OutOfMemory = pushes.OutOfMemory

-- The journal with one more entry, and the record.
abbrev pub logged : Log → Entry → Log
logged log entry = record log { entries = log.entries ++ entry ∷ [] }

abbrev pub recorded : Run → Entry → Run
recorded run entry = record run { entries = run.entries ++ entry ∷ [] }

-- A step of a journal: it is refused where the journal is full, else as its client refuses it.
abbrev pub logged_unless : Log → Entry → Option Refusal → Result Log StepError
logged_unless log entry None = Ok (logged log entry)
logged_unless log entry (Some refusal) = Err (as_step_error refusal)

unfoldable pub step_of : Log → ℕ → Input → Result Log StepError
step_of log number input =
    let st = replay log.config log.me log.entries in
    if nat_lt (length log.entries) 200000
    then logged_unless log (entry_at log.config log.me st number input) (refusal_at log.config log.me st input)
    else Err steps.Full

-- A push to a record: an input of client i is refused as that client refuses it, and an arrival where no sent message
-- is left.
abbrev pub recorded_unless : Run → Entry → Option Refusal → Result Run PushError
recorded_unless run entry None = Ok (recorded run entry)
recorded_unless run entry (Some refusal) = Err (as_push_error refusal)

unfoldable pub acted : Run → ℕ → Input → Result Run PushError
acted run i input =
    let st = replay run.config i (entries_of i run.entries) in
    recorded_unless run (entry_at run.config i st (length run.entries) input) (refusal_at run.config i st input)

abbrev pub arrived_at : Run → ℕ → Option (List ℕ) → Result Run PushError
arrived_at run i None = Err pushes.Nothing
arrived_at run i (Some message) = Ok (recorded run (arrival_at i (length run.entries) message))

unfoldable pub arrived : Run → ℕ → Result Run PushError
arrived run i = arrived_at run i (next_message i run.entries)

abbrev pub push_of : Run → ℕ → PushInput → Result Run PushError
push_of run i (given.Write value) = acted run i (inputs.Write value)
push_of run i (given.Read register) = acted run i (inputs.Read register)
push_of run i (given.Reply bytes) = acted run i (inputs.Reply bytes)
push_of run i (given.Peer bytes) = acted run i (inputs.Peer bytes)
push_of run i (given.Tick moment) = acted run i (inputs.Tick moment)
push_of run i given.Arrive = arrived run i

-- What a call answers and leaves is what is due. Only want of memory is free. After a refusal all is as before.
abbrev pub Refuses : {Value E : Type 0} → E → Value → Value → Result Value E → Type 0
Refuses e old new due = (new ≡ old) × (due ≡ Err e)

abbrev pub StepRefuses : StepError → Log → Log → Result Log StepError → Type 0
StepRefuses steps.Full old new due = Refuses steps.Full old new due
StepRefuses steps.TooLong old new due = Refuses steps.TooLong old new due
StepRefuses steps.NoRegister old new due = Refuses steps.NoRegister old new due
StepRefuses (steps.Failed notice) old new due = Refuses (steps.Failed notice) old new due
StepRefuses steps.Busy old new due = Refuses steps.Busy old new due
StepRefuses steps.OutOfMemory old new due = new ≡ old

abbrev pub Steps : {Unit0 : Type 0} → Result Unit0 StepError → Log → Log → Result Log StepError → Type 0
Steps (Ok done) old new due = due ≡ Ok new
Steps (Err e) old new due = StepRefuses e old new due

abbrev pub PushRefuses : PushError → Run → Run → Result Run PushError → Type 0
PushRefuses pushes.TooLong old new due = Refuses pushes.TooLong old new due
PushRefuses pushes.NoRegister old new due = Refuses pushes.NoRegister old new due
PushRefuses (pushes.Failed notice) old new due = Refuses (pushes.Failed notice) old new due
PushRefuses pushes.Busy old new due = Refuses pushes.Busy old new due
PushRefuses pushes.Nothing old new due = Refuses pushes.Nothing old new due
PushRefuses pushes.OutOfMemory old new due = new ≡ old

abbrev pub Pushes : {Done : Type 0} → Result Done PushError → Run → Run → Result Run PushError → Type 0
Pushes (Ok done) old new due = due ≡ Ok new
Pushes (Err e) old new due = PushRefuses e old new due
