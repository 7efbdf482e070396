-- The generated script: operations of all clients in an order that is drawn from a seed, then one last operation, then
-- two rounds in which each client asks each other for its version and is answered. `generate` promises it.
use Rattle.std.specs.Prelude.{ℕ, zero, suc, ◌+◌, ◌-◌, ◌*◌, ◌/◌, ◌%◌, ◌^◌, ◌≤◌, Bool, true, cond, nat_eq, nat_lt, List, [], ◌∷◌, ◌++◌, length, replicate, codes, slice_index, slice_index_or, slice_set}
use Rattle.std.specs.Fmt.{decimal}
use Rattle.faust_types.specs.Clients.{IsClientCount}
use Rattle.faust_types.specs.declared.config.Config.{Config}
use Rattle.faust_script.specs.declared.event.Event.{Event}
use Rattle.faust_script.specs.declared.event.Event.TheVariants as event
use Rattle.faust_script.specs.declared.progress.Actor.{Actor}
use Rattle.faust_script.specs.declared.progress.Phase.{Phase}
use Rattle.faust_script.specs.declared.progress.Phase.TheVariants as phases
use Rattle.faust_script.specs.declared.progress.Progress.{Progress}
use Rattle.faust_script.specs.declared.script.Script.{Script}

-- A generated script is for 2 to 32 clients, which begin 1 to 3,000 operations together.
pub record IsSampleSize (n ops : ℕ) : Type 0 where
  pub clients_count : IsClientCount n
  pub from_one : 1 ≤ ops
  pub to_3000 : ops ≤ 3000

-- A draw makes the next state, and answers its upper 31 bits.
unfoldable pub drawn : ℕ → ℕ
drawn state = (state * 6364136223846793005 + 1442695040888963407) % 2 ^ 64

unfoldable pub answer : ℕ → ℕ
answer state = state / 2 ^ 33

abbrev pub after_draw : Progress → Progress
after_draw progress = record progress { state = drawn progress.state }

-- At first the state is the seed, and no client began an operation.
abbrev pub idle : Actor
idle = record { phase = phases.Idle; number = 0 }

abbrev pub beginning : ℕ → ℕ → Progress
beginning seed n = record { state = seed; begun = 0; actors = replicate n idle; events = [] }

-- Operations may begin as long as fewer than all but the last of them have begun.
abbrev pub may_begin_one : ℕ → Progress → Bool
may_begin_one ops progress = nat_lt progress.begun (ops - 1)

-- A client can act within an operation, and where an operation may begin.
abbrev pub can_act : Bool → Phase → Bool
can_act may_begin phases.Idle = may_begin
can_act may_begin phases.Begun = true
can_act may_begin phases.Arrived = true
can_act may_begin phases.Replied = true

-- The clients that can act, in ascending order, of these from the given client on.
abbrev pub able_from : Bool → ℕ → List Actor → List ℕ
able_from may_begin client [] = []
able_from may_begin client (actor ∷ actors) =
    cond (can_act may_begin actor.phase) (client ∷ able_from may_begin (client + 1) actors) (able_from may_begin (client + 1) actors)

abbrev pub able : ℕ → Progress → List ℕ
able ops progress = able_from (may_begin_one ops progress) 1 progress.actors

-- A client comes to a phase by an event.
abbrev pub with_event_of : ℕ → Actor → Event → Progress → Progress
with_event_of client actor event progress =
    record progress { actors = slice_set progress.actors (client - 1) actor; events = progress.events ++ event ∷ [] }

-- The value of a write names its operation, the t-th of client i.
abbrev pub value_of : ℕ → ℕ → List ℕ
value_of i t = decimal i ++ (codes "-" ++ decimal t)

-- A client begins an operation: a write where the draw is even, and else a read of a register that is drawn too.
abbrev pub begins_with : ℕ → ℕ → Event → Progress → Progress
begins_with client number event progress =
    record progress {
      begun = progress.begun + 1;
      actors = slice_set progress.actors (client - 1) (record { phase = phases.Begun; number = number });
      events = progress.events ++ event ∷ [];
    }

abbrev pub begins_read : ℕ → ℕ → ℕ → Progress → Progress
begins_read n client number progress = begins_with client number (event.Read client (answer progress.state % n + 1)) progress

abbrev pub begins_drawn : ℕ → ℕ → ℕ → Progress → Progress
begins_drawn n client number progress = cond (nat_eq (answer progress.state % 2) 0)
    (begins_with client number (event.Write client (value_of client number)) progress)
    (begins_read n client number (after_draw progress))

-- What a client does next: it begins its next operation, its SUBMIT arrives, it is handed the reply, its COMMIT arrives.
abbrev pub goes_on : ℕ → ℕ → ℕ → Phase → Progress → Progress
goes_on n client number phases.Idle progress = begins_drawn n client (number + 1) (after_draw progress)
goes_on n client number phases.Begun progress =
    with_event_of client (record { phase = phases.Arrived; number = number }) (event.Arrive client) progress
goes_on n client number phases.Arrived progress =
    with_event_of client (record { phase = phases.Replied; number = number }) (event.Reply client) progress
goes_on n client number phases.Replied progress =
    with_event_of client (record { phase = phases.Idle; number = number }) (event.Arrive client) progress

abbrev pub acts : ℕ → ℕ → Progress → Progress
acts n client progress =
    goes_on n client (slice_index_or progress.actors (client - 1) idle).number
    (slice_index_or progress.actors (client - 1) idle).phase progress

-- One step: of the clients that can act the drawn one does what it does next.
abbrev pub acting_client : ℕ → Progress → ℕ
acting_client ops progress = slice_index (able ops progress) (answer (drawn progress.state) % length (able ops progress))

abbrev pub acted : ℕ → ℕ → Progress → Progress
acted n ops progress = acts n (acting_client ops progress) (after_draw progress)

unfoldable pub after_steps : ℕ → ℕ → Progress → ℕ → Progress
after_steps n ops progress zero = progress
after_steps n ops progress (suc steps) = acted n ops (after_steps n ops progress steps)

-- Steps are made as long as some client can act: each operation but the last takes four.
abbrev pub step_count : ℕ → ℕ
step_count ops = 4 * (ops - 1)

unfoldable pub drawn_events : ℕ → ℕ → ℕ → List Event
drawn_events seed n ops = (after_steps n ops (beginning seed n) (step_count ops)).events

-- The last operation is a read of register 1 by the last client.
abbrev pub last_operation : ℕ → List Event
last_operation n = event.Read n 1 ∷ event.Arrive n ∷ event.Reply n ∷ event.Arrive n ∷ []

-- The events for 1, those for 2, and so on up to a number.
unfoldable pub each_up_to : ℕ → (ℕ → List Event) → List Event
each_up_to zero events = []
each_up_to (suc k) events = each_up_to k events ++ events (suc k)

-- Each client is handed a moment.
abbrev pub ticks : ℕ → ℕ → List Event
ticks n moment = each_up_to n (λ i. event.Tick i moment ∷ [])

-- The k-th message of each client to each other one is handed over, by senders.
abbrev pub to_another : ℕ → ℕ → ℕ → List Event
to_another k i j = cond (nat_eq i j) [] (event.Peer i j k ∷ [])

abbrev pub from_each : ℕ → ℕ → List Event
from_each n k = each_up_to n (λ i. each_up_to n (λ j. to_another k i j))

-- The same, by receivers.
abbrev pub to_each : ℕ → ℕ → List Event
to_each n k = each_up_to n (λ i. each_up_to n (λ j. to_another k j i))

-- A round: each client asks each other one for its version, and each of these answers.
abbrev pub round_of : ℕ → ℕ → List Event
round_of n r = ticks n (1000 * r) ++ (from_each n (2 * r - 1) ++ to_each n (2 * r))

-- The whole script.
abbrev pub sample_key : List ℕ
sample_key = 0 ∷ 1 ∷ 2 ∷ 3 ∷ 4 ∷ 5 ∷ 6 ∷ 7 ∷ 8 ∷ 9 ∷ 10 ∷ 11 ∷ 12 ∷ 13 ∷ 14 ∷ 15 ∷ []

abbrev pub sample_config : ℕ → Config
sample_config n = record { clients = n; key = sample_key; delta = 1000; dummy = 1000000; wire = 1 }

unfoldable pub generated : ℕ → ℕ → ℕ → Script
generated seed n ops = record {
  format = 1;
  config = sample_config n;
  events = drawn_events seed n ops ++ (last_operation n ++ (round_of n 1 ++ round_of n 2));
}
