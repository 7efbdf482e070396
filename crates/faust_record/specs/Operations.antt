-- The operations of a record, and which of them precede which: the words in which promises on runs are stated.
use Rattle.std.specs.Prelude.{◌≡◌, ◌==◌, ◌&&◌, ◌-◌, ◌<◌, ℕ, true, cond, Bool, false, List, [], ◌∷◌, ◌++◌, Option, Some, None, option_map, option_to_list, slice_get}
use Rattle.faust_types.specs.declared.operation.OpName.{OpName}
use Rattle.faust_types.specs.declared.operation.Operation.{Operation}
use Rattle.faust_types.specs.declared.operation.Answer.{Answer}
use Rattle.faust_types.specs.declared.outcome.Outcome.{Outcome}
use Rattle.faust_agent.specs.Deeds.{read_of, write_of}
use Rattle.faust_agent.specs.declared.deed.Order.{Order}
use Rattle.faust_record.specs.Runs.{entries_of}
use Rattle.faust_record.specs.declared.entry.Input.{Input}
use Rattle.faust_record.specs.declared.entry.Input.TheVariants as inputs
use Rattle.faust_record.specs.declared.entry.Entry.{Entry}

-- An operation that began: its kind, register and value, and the number of the entry in which it began. One that
-- completed: its answer, and the number of the entry in which it completed.
pub record Started : Type 0 where
  pub order : Order
  pub number : ℕ

pub record Finished : Type 0 where
  pub answer : Answer
  pub number : ℕ

-- What begins in an entry: what its user asks for, or the dummy read that a tick begins.
abbrev pub dummy_read_of : Operation → Order
dummy_read_of op = read_of op.register true

abbrev pub order_in : ℕ → Input → Outcome → Option Order
order_in i (inputs.Write value) outcome = Some (write_of i value)
order_in i (inputs.Read register) outcome = Some (read_of register false)
order_in i (inputs.Reply bytes) outcome = None
order_in i (inputs.Peer bytes) outcome = None
order_in i (inputs.Tick moment) outcome = option_map dummy_read_of outcome.began
order_in i (inputs.Arrive message) outcome = None

abbrev pub started_in : Entry → Option Started
started_in entry =
    option_map (λ order. record { order = order; number = entry.number }) (order_in entry.client entry.input entry.outcome)

abbrev pub finished_in : Entry → Option Finished
finished_in entry = option_map (λ answer. record { answer = answer; number = entry.number }) entry.outcome.answer

-- The operations that began and that completed in entries, in order.
abbrev pub started_among : List Entry → List Started
started_among [] = []
started_among (entry ∷ rest) = option_to_list (started_in entry) ++ started_among rest

abbrev pub finished_among : List Entry → List Finished
finished_among [] = []
finished_among (entry ∷ rest) = option_to_list (finished_in entry) ++ finished_among rest

-- The operation i.t is the t-th one that client i began, if there is one.
abbrev pub operation_named : List Entry → OpName → Option Started
operation_named entries name = slice_get (started_among (entries_of name.client entries)) (name.t - 1)

-- Its completion, if it completed.
abbrev pub is_named : OpName → OpName → Bool
is_named name other = (name.client == other.client) && (name.t == other.t)

abbrev pub first_finished : OpName → List Finished → Option Finished
first_finished name [] = None
first_finished name (finished ∷ rest) =
    cond (is_named name finished.answer.op.name) (Some finished) (first_finished name rest)

abbrev pub completion_named : List Entry → OpName → Option Finished
completion_named entries name = first_finished name (finished_among (entries_of name.client entries))

-- Operation a precedes operation b in real time: the entry in which a completed stands before that in which b began.
pub record Precedes (entries : List Entry) (a b : OpName) : Type 0 where
  pub finished : Finished
  pub is_finished : completion_named entries a ≡ Some finished
  pub started : Started
  pub is_started : operation_named entries b ≡ Some started
  pub before : finished.number < started.number
