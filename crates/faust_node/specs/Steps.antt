-- What one step of a cell does. The calls that change a cell rest on it.
use Rattle.std.specs.Prelude.{◌≡◌, ◌<◌, ◌≤◌, ◌⊎◌, ◌^◌, ℕ, Bool, true, false, [], length, All, Option, Some, None, Result, Ok, Err, nat_le, nat_lt, if◌then◌else◌}
use Rattle.faust_types.specs.Clients.{IsClient}
use Rattle.faust_types.specs.declared.arrival.Closing.{Closing}
use Rattle.faust_types.specs.declared.arrival.Closing.TheVariants as closings
use Rattle.faust_types.specs.declared.config.Config.{Config}
use Rattle.faust_types.specs.declared.operation.Kind.TheVariants.{Read, Write}
use Rattle.faust_types.specs.declared.operation.Notice.{Notice}
use Rattle.faust_types.specs.declared.operation.Operation.{Operation}
use Rattle.faust_types.specs.declared.out_of_memory.OutOfMemory.{OutOfMemory}
use Rattle.faust_agent.specs.State.{is_idle}
use Rattle.faust_agent.specs.Deeds.{read_of, write_of}
use Rattle.faust_agent.specs.Table.{operation_of}
use Rattle.faust_agent.specs.declared.deed.Order.{Order}
use Rattle.faust_agent.specs.declared.client.Client.{Client}
use Rattle.faust_ticket.specs.Holders.{after_draw}
use Rattle.faust_record.specs.Journals.{Log}
use Rattle.faust_record.specs.Refusals.{is_register, step_of}
use Rattle.faust_record.specs.declared.entry.Input.{Input}
use Rattle.faust_record.specs.declared.entry.Input.TheVariants as inputs
use Rattle.faust_record.specs.declared.errors.StepError.{StepError}
use Rattle.faust_record.specs.declared.errors.StepError.TheVariants as steps
use Rattle.faust_node.specs.declared.error.NodeError.{NodeError}
use Rattle.faust_node.specs.declared.error.NodeError.TheVariants as errors
use Rattle.faust_node.specs.Cells.{Cell, closed_by, held_by, refusal_of, stop_of}

-- One number was drawn, above each that was drawn before, and the journal made one step with it.
pub record IsStepped (old new : Cell) (input : Input) : Type 0 where
  pub number : ℕ
  pub above : All (λ (x : ℕ). x < number) old.seat.drawn
  pub drawn : new.seat ≡ after_draw old.seat number
  pub logged : step_of old.log number input ≡ Ok new.log
  pub same_closed : new.closed ≡ old.closed

-- Whatever the number, the journal's step is refused with this error. No number was drawn, and all is as before.
pub record IsRefused (old new : Cell) (input : Input) (error : StepError) : Type 0 where
  pub refused : (number : ℕ) → step_of old.log number input ≡ Err error
  pub same : new ≡ old

-- No memory was found. The journal is as before, and at most one number was drawn.
pub record IsOutOfMemory (old new : Cell) : Type 0 where
  pub same_log : new.log ≡ old.log
  pub closed_is : new.closed ≡ Some closings.Memory
  pub drawn : (new.seat ≡ old.seat) ⊎ ((x : ℕ) × (new.seat ≡ after_draw old.seat x))

abbrev pub Refuses : StepError → Cell → Cell → Input → Type 0
Refuses steps.Full old new input = IsRefused old new input steps.Full
Refuses steps.TooLong old new input = IsRefused old new input steps.TooLong
Refuses steps.NoRegister old new input = IsRefused old new input steps.NoRegister
Refuses (steps.Failed notice) old new input = IsRefused old new input (steps.Failed notice)
Refuses steps.Busy old new input = IsRefused old new input steps.Busy
Refuses steps.OutOfMemory old new input = IsOutOfMemory old new

-- What a step of a cell answers and leaves.
abbrev pub CellSteps : {Done : Type 0} → Result Done StepError → Cell → Cell → Input → Type 0
CellSteps (Ok done) old new input = IsStepped old new input
CellSteps (Err error) old new input = Refuses error old new input

-- Why a journal takes no step, if it takes none: the first cause that holds.
abbrev pub begin_refused_by : Option Notice → Bool → Option StepError
begin_refused_by (Some notice) idle = Some (steps.Failed notice)
begin_refused_by None idle = if idle then None else Some steps.Busy

abbrev pub begin_refused : ℕ → Client → Option StepError
begin_refused me st = begin_refused_by st.notice (is_idle me st)

abbrev pub input_refused : Config → ℕ → Client → Input → Option StepError
input_refused config me st (inputs.Write value) =
    if nat_le (length value) 4096 then begin_refused me st else Some steps.TooLong
input_refused config me st (inputs.Read register) =
    if is_register config.clients register then begin_refused me st else Some steps.NoRegister
input_refused config me st (inputs.Reply bytes) = None
input_refused config me st (inputs.Peer bytes) = None
input_refused config me st (inputs.Tick moment) = None
input_refused config me st (inputs.Arrive message) = None

abbrev pub step_refused : Log → Input → Option StepError
step_refused log input =
    if nat_lt (length log.entries) 200000 then input_refused log.config log.me (held_by log) input else Some steps.Full

-- A user may ask for this: to write a value of at most 4,096 bytes, or to read one of n registers.
abbrev pub IsAsked : ℕ → Input → Type 0
IsAsked n (inputs.Write value) = length value ≤ 4096
IsAsked n (inputs.Read register) = IsClient n register
IsAsked n (inputs.Reply bytes) = ⊥
IsAsked n (inputs.Peer bytes) = ⊥
IsAsked n (inputs.Tick moment) = ⊥
IsAsked n (inputs.Arrive message) = ⊥

-- The operation that client me, which holds st, begins where its user asks for this.
abbrev pub order_of : ℕ → Input → Order
order_of me (inputs.Write value) = write_of me value
order_of me (inputs.Read register) = read_of register false
order_of me (inputs.Reply bytes) = write_of me bytes
order_of me (inputs.Peer bytes) = write_of me bytes
order_of me (inputs.Tick moment) = write_of me []
order_of me (inputs.Arrive message) = write_of me message

abbrev pub asked_for : ℕ → Client → Input → Operation
asked_for me st input = operation_of me st (order_of me input)

-- The client may begin an operation.
pub record MayBegin (cell : Cell) : Type 0 where
  pub not_refused : refusal_of cell ≡ None
  pub idle : is_idle cell.log.me (held_by cell.log) ≡ true

-- An operation of the kind and on the register that were asked for.
abbrev pub IsAskedFor : Input → Operation → Type 0
IsAskedFor (inputs.Write value) op = op.kind ≡ Write
IsAskedFor (inputs.Read register) op = (op.kind ≡ Read) × (op.register ≡ register)
IsAskedFor (inputs.Reply bytes) op = Unit {0}
IsAskedFor (inputs.Peer bytes) op = Unit {0}
IsAskedFor (inputs.Tick moment) op = Unit {0}
IsAskedFor (inputs.Arrive message) op = Unit {0}

-- The client stepped, and this is the operation that it waits for now: the one that was asked for.
pub record IsBegun (old new : Cell) (input : Input) (op : Operation) : Type 0 where
  pub stepped : IsStepped old new input
  pub waiting : (held_by new.log).waiting ≡ Some op
  pub asked : IsAskedFor input op

-- Where nothing began, memory is the cause.
abbrev pub Begins : Result Operation OutOfMemory → Cell → Cell → Input → Type 0
Begins (Ok op) old new input = IsBegun old new input op
Begins (Err error) old new input = IsOutOfMemory old new

-- What comes from outside, and not from a user.
abbrev pub IsOutside : Input → Type 0
IsOutside (inputs.Write value) = ⊥
IsOutside (inputs.Read register) = ⊥
IsOutside (inputs.Reply bytes) = length bytes ≤ 16384
IsOutside (inputs.Peer bytes) = length bytes ≤ 16384
IsOutside (inputs.Tick moment) = moment < 2 ^ 40
IsOutside (inputs.Arrive message) = ⊥

-- The cell was closed before, and nothing changed.
pub record WasClosed (old new : Cell) (cause : Closing) : Type 0 where
  pub stopped : stop_of old ≡ Some cause
  pub same : new ≡ old

-- It was open, and the journal has no room: the cell is closed with `Full`.
pub record HasFilled (old new : Cell) : Type 0 where
  pub was_open : old.closed ≡ None
  pub full : 200000 ≤ length old.log.entries
  pub closed_full : new ≡ closed_by old closings.Full

-- It was open, and no memory was found.
pub record HasStarved (old new : Cell) : Type 0 where
  pub was_open : old.closed ≡ None
  pub no_memory : IsOutOfMemory old new

-- It was open, and took the input.
pub record HasTaken (old new : Cell) (input : Input) : Type 0 where
  pub was_open : old.closed ≡ None
  pub stepped : IsStepped old new input

-- What an input from outside does: the cell takes it, or names why nothing more is to be handed in.
abbrev pub Takes : Option Closing → Cell → Cell → Input → Type 0
Takes None old new input = HasTaken old new input
Takes (Some closings.Asked) old new input = WasClosed old new closings.Asked
Takes (Some (closings.Failed notice)) old new input = WasClosed old new (closings.Failed notice)
Takes (Some closings.Ended) old new input = ⊥
Takes (Some closings.Link) old new input = ⊥
Takes (Some closings.Malformed) old new input = ⊥
Takes (Some (closings.Named client)) old new input = ⊥
Takes (Some (closings.Turn expected got)) old new input = ⊥
Takes (Some closings.Full) old new input = HasFilled old new
Takes (Some closings.Memory) old new input = HasStarved old new

-- The errors that a user may get who asked for what may be asked for.
abbrev pub IsMidway : NodeError → Type 0
IsMidway errors.TooLong = ⊥
IsMidway errors.NoRegister = ⊥
IsMidway (errors.Failed notice) = Unit {0}
IsMidway (errors.Closed cause) = Unit {0}
IsMidway errors.Full = Unit {0}
IsMidway errors.OutOfMemory = Unit {0}
