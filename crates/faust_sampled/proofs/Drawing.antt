-- The operations of a generated script play through: in each step the drawn client does what is next for it.
use Rattle.std.proofs.Common.{◌≡◌, ◌+◌, ◌-◌, ◌%◌, ◌<◌, ◌≤◌, ℕ, zero, suc, List, [], ◌∷◌, ◌++◌, length, get_or, set, refl, sym, subst, inl, inr, arith}
use Rattle.std.specs.Prelude.{nat_eq}
use Rattle.std.specs.List.{AllByRecursion}
use Rattle.std.proofs.lemmas.Bool.{cases_eq, cond_both}
use Rattle.std.proofs.lemmas.List.{get_or-replicate}
use Rattle.faust_types.specs.Clients.{IsClient}
use Rattle.faust_types.specs.declared.config.Config.{Config}
use Rattle.faust_record.specs.Runs.{IsRun}
use Rattle.faust_record.specs.declared.entry.Entry.{Entry}
use Rattle.faust_record.proofs.Agents.{set-other, set-own}
use Rattle.faust_script.specs.Generated.{IsSampleSize, able, after_draw, after_steps, answer, beginning, begins_read, begins_with, drawn, drawn_events, goes_on, idle, last_operation, step_count, value_of}
use Rattle.faust_script.specs.InRange.{IsEventFor}
use Rattle.faust_script.specs.declared.event.Event.{Event}
use Rattle.faust_script.specs.declared.event.Event.TheVariants as event
use Rattle.faust_script.specs.declared.progress.Actor.{Actor}
use Rattle.faust_script.specs.declared.progress.Phase.{Phase}
use Rattle.faust_script.specs.declared.progress.Phase.TheVariants as phases
use Rattle.faust_script.specs.declared.progress.Progress.{Progress}
use Rattle.faust_script.proofs.Steps.{IsUnderway, able_client, owed, owed_in, some_able, underway}
use Rattle.faust_liar.specs.Lies.{LiarState, first_lies}
use Rattle.faust_sampled.proofs.Leading.{IsPlayed, Leads, leads-append, leads-later, leads-one}
use Rattle.faust_sampled.proofs.Phases.{IsInPhase, phase-first}
use Rattle.faust_sampled.proofs.Standing.{IsStanding, standing-first}
use Rattle.faust_sampled.proofs.Steps.{IsOneMore, IsSilent, arrive-plays, read-plays, reply-plays, write-plays}
use Rattle.faust_sampled.proofs.Timers.{first-timed}

-- Along the drawing each client is in the phase that it has there, and each event made an entry.
pub record IsDrawing (config : Config) (actors : List Actor) (made : List Event) (entries : List Entry) (liar : LiarState) : Type 0 where
  pub standing : IsStanding config entries liar
  pub silent : IsSilent config entries
  pub in_phase : (i : ℕ) → IsClient config.clients i → IsInPhase config entries i (get_or actors (i - 1) idle).phase
  pub counted : length entries ≡ length made

length-one : {X : Type 0} (xs : List X) (x : X) → length (xs ++ x ∷ []) ≡ length xs + 1
length-one {X} [] x = refl
length-one {X} (y ∷ xs) x = omega (arith, length-one xs x)

drawing-next : (config : Config) (actors : List Actor) (made : List Event) (entries next : List Entry) (liar now : LiarState)
    (client number : ℕ) (phase : Phase) (happens : Event) → IsClient config.clients client → length actors ≡ config.clients
    → IsDrawing config actors made entries liar → IsOneMore config entries client phase next now
    → IsDrawing config (set actors (client - 1) (record { phase = phase; number = number })) (made ++ happens ∷ []) next now
drawing-next config actors made entries next liar now client number phase happens is sized drawing one =
    let n = config.clients in
    let actor : Actor = record { phase = phase; number = number } in
    let later : List Actor = set actors (client - 1) actor in
    let In : ℕ → Actor → Type 0 = λ (j : ℕ) (a : Actor). IsInPhase config next j a.phase in
    record {
      standing = one.standing;
      silent = one.silent;
      in_phase = λ j within. elim (cases_eq client j) [
        | inl same ↦ subst (λ (k : ℕ). In k (get_or later (k - 1) idle)) same
            (subst (In client) (sym (set-own actors client actor idle n sized is)) one.own)
        | inr other ↦ subst (In j) (sym (set-other actors client j actor idle n is within other))
            (one.others j (get_or actors (j - 1) idle).phase other (drawing.in_phase j within))
      ];
      counted = omega (arith, one.counted, drawing.counted, length-one made happens);
    }

-- one more event
drawn-one : (config : Config) (liar : LiarState) (actors : List Actor) (made : List Event) (client number : ℕ) (phase : Phase)
    (happens : Event) → IsClient config.clients client → length actors ≡ config.clients
    → ((next : List Entry) (now : LiarState) → IsDrawing config actors made next now
    → IsPlayed config next now happens (IsOneMore config next client phase))
    → Leads config [] liar made (IsDrawing config actors made)
    → Leads config [] liar (made ++ happens ∷ [])
    (IsDrawing config (set actors (client - 1) (record { phase = phase; number = number })) (made ++ happens ∷ []))
drawn-one config liar actors made client number phase happens is sized plays front =
    let Later : List Entry → LiarState → Type 0 =
    IsDrawing config (set actors (client - 1) (record { phase = phase; number = number })) (made ++ happens ∷ []) in
    leads-append config [] liar made (happens ∷ []) (IsDrawing config actors made) Later front
    (λ next now drawing. leads-one config next now happens (IsOneMore config next client phase) Later (plays next now drawing)
    (λ later after one. drawing-next config actors made next later now after client number phase happens is sized drawing one))

-- an event that was made is in range
last-of : {X : Type 0} (P : X → Type 0) (xs : List X) (x : X) → AllByRecursion P (xs ++ x ∷ []) → P x
last-of {X} P [] x all = all.0
last-of {X} P (y ∷ xs) x all = last-of P xs x all.1

-- what a client does next
abbrev Draws : Config → LiarState → Progress → Type 0
Draws config liar progress = Leads config [] liar progress.events (IsDrawing config progress.actors progress.events)

going-on : (config : Config) (liar : LiarState) (client number : ℕ) (phase : Phase) (progress : Progress) → config.wire ≡ 1
    → IsClient config.clients client → length progress.actors ≡ config.clients → length progress.events ≤ 20000
    → (get_or progress.actors (client - 1) idle).phase ≡ phase
    → AllByRecursion (IsEventFor config.clients) (goes_on config.clients client number phase progress).events
    → Draws config liar progress → Draws config liar (goes_on config.clients client number phase progress)
going-on config liar client number phases.Idle progress one is sized few phase_is range front =
    let n = config.clients in
    let InRange : Progress → Type 0 = λ (p : Progress). AllByRecursion (IsEventFor n) p.events in
    let write : Event = event.Write client (value_of client (number + 1)) in
    let read : Event = event.Read client (answer (drawn (drawn progress.state)) % n + 1) in
    let Phased : Phase → List Entry → Type 0 = λ (phase : Phase) (entries : List Entry). IsInPhase config entries client phase in
    let both : InRange (goes_on n client number phases.Idle progress) → Draws config liar (goes_on n client number phases.Idle progress) =
    cond_both (nat_eq (answer (drawn progress.state) % 2) 0)
    (begins_with client (number + 1) write (after_draw progress))
    (begins_read n client (number + 1) (after_draw (after_draw progress)))
    (λ (p : Progress). InRange p → Draws config liar p)
    (λ even all. drawn-one config liar progress.actors progress.events client (number + 1) phases.Begun write is sized
    (λ next now drawing. write-plays config next now client (value_of client (number + 1)) drawing.standing drawing.silent is
    (omega (arith, few, drawing.counted)) (subst (λ (p : Phase). Phased p next) phase_is (drawing.in_phase client is))
    (last-of (IsEventFor n) progress.events write all).1) front)
    (λ odd all. drawn-one config liar progress.actors progress.events client (number + 1) phases.Begun read is sized
    (λ next now drawing. read-plays config next now client (answer (drawn (drawn progress.state)) % n + 1) drawing.standing
    drawing.silent is (omega (arith, few, drawing.counted)) (subst (λ (p : Phase). Phased p next) phase_is (drawing.in_phase client is))
    (last-of (IsEventFor n) progress.events read all).1) front) in
    both range
going-on config liar client number phases.Begun progress one is sized few phase_is range front =
    drawn-one config liar progress.actors progress.events client number phases.Arrived (event.Arrive client) is sized
    (λ next now drawing. arrive-plays config next now client phases.Begun phases.Arrived one drawing.standing drawing.silent is
    (subst (λ (p : Phase). IsInPhase config next client p) phase_is (drawing.in_phase client is)) refl refl) front
going-on config liar client number phases.Arrived progress one is sized few phase_is range front =
    drawn-one config liar progress.actors progress.events client number phases.Replied (event.Reply client) is sized
    (λ next now drawing. reply-plays config next now client one drawing.standing drawing.silent is
    (subst (λ (p : Phase). IsInPhase config next client p) phase_is (drawing.in_phase client is))) front
going-on config liar client number phases.Replied progress one is sized few phase_is range front =
    drawn-one config liar progress.actors progress.events client number phases.Idle (event.Arrive client) is sized
    (λ next now drawing. arrive-plays config next now client phases.Replied phases.Idle one drawing.standing drawing.silent is
    (subst (λ (p : Phase). IsInPhase config next client p) phase_is (drawing.in_phase client is)) refl refl) front

-- at first
drawing-first : (config : Config) (seed : ℕ) → IsRun config []
    → Draws config (first_lies config.wire config.clients) (beginning seed config.clients)
drawing-first config seed run =
    let n = config.clients in
    record {
      standing = standing-first config run;
      silent = record { unsaid = λ i j. refl; timed = λ i. first-timed n i };
      in_phase = λ i client. subst (λ (a : Actor). IsInPhase config [] i a.phase)
          (sym (get_or-replicate n (i - 1) idle idle (omega (arith, client.from_one, client.to_n)))) (phase-first config i);
      counted = refl;
    }

-- all steps
steps-lead : (config : Config) (seed ops steps : ℕ) → config.wire ≡ 1 → IsSampleSize config.clients ops → IsRun config []
    → steps ≤ step_count ops
    → Draws config (first_lies config.wire config.clients) (after_steps config.clients ops (beginning seed config.clients) steps)
unfolding after_steps
steps-lead config seed ops zero one size run within = drawing-first config seed run
steps-lead config seed ops (suc steps) one size run within =
    let n = config.clients in
    let progress : Progress = after_steps n ops (beginning seed n) steps in
    let is : IsUnderway n ops steps progress = underway seed n ops steps size (omega (arith, within)) in
    let later : IsUnderway n ops (suc steps) (after_steps n ops (beginning seed n) (suc steps)) =
    underway seed n ops (suc steps) size within in
    let some : 0 < length (able ops progress) = some_able n ops steps progress size is (omega (arith, within)) in
    let place : ℕ = answer (drawn progress.state) % length (able ops progress) in
    let inside : place < length (able ops progress) = omega (arith, some) in
    let client : ℕ = get_or (able ops progress) place 0 in
    let few : length progress.events ≤ 20000 = omega (arith, is.events_counted, within, size.to_3000) in
    going-on config (first_lies config.wire n) client (get_or progress.actors (client - 1) idle).number
    (get_or progress.actors (client - 1) idle).phase (after_draw progress) one (able_client n ops steps place progress is inside)
    is.each_counted few refl later.events_in_range
    (steps-lead config seed ops steps one size run (omega (arith, within)))

-- behind the last step all clients are idle
idle-phase : (phase : Phase) → owed_in phase ≡ 0 → phase ≡ phases.Idle
idle-phase phases.Idle none = refl
idle-phase phases.Begun none = absurd (omega (arith, none))
idle-phase phases.Arrived none = absurd (omega (arith, none))
idle-phase phases.Replied none = absurd (omega (arith, none))

none-owed : (a : Actor) (actors : List Actor) → owed (a ∷ actors) ≡ 0 → (owed_in a.phase ≡ 0) × (owed actors ≡ 0)
none-owed a actors none =
    let both : owed_in a.phase + owed actors ≡ 0 = none in
    (omega (arith, both), omega (arith, both))

all-idle : (actors : List Actor) (k : ℕ) → owed actors ≡ 0 → (get_or actors k idle).phase ≡ phases.Idle
all-idle [] k none = refl
all-idle (a ∷ actors) zero none = idle-phase a.phase (none-owed a actors none).0
all-idle (a ∷ actors) (suc k) none = all-idle actors k (none-owed a actors none).1

-- All operations are complete, and nothing was said between clients.
pub record IsQuiet (config : Config) (entries : List Entry) (liar : LiarState) : Type 0 where
  pub standing : IsStanding config entries liar
  pub silent : IsSilent config entries

-- The last client may read.
pub record IsLastDue (config : Config) (entries : List Entry) (liar : LiarState) : Type 0 where
  pub standing : IsStanding config entries liar
  pub silent : IsSilent config entries
  pub few : length entries ≤ 20000
  pub in_phase : IsInPhase config entries config.clients phases.Idle

pub drawn-lead : (config : Config) (seed ops : ℕ) → config.wire ≡ 1 → IsSampleSize config.clients ops → IsRun config []
    → Leads config [] (first_lies config.wire config.clients) (drawn_events seed config.clients ops) (IsLastDue config)
unfolding drawn_events
drawn-lead config seed ops one size run =
    let n = config.clients in
    let last : IsClient n n = record { from_one = omega (arith, size.clients_count.at_least_two); to_n = omega arith } in
    let progress : Progress = after_steps n ops (beginning seed n) (step_count ops) in
    let is : IsUnderway n ops (step_count ops) progress = underway seed n ops (step_count ops) size (omega arith) in
    let nothing_owed : owed progress.actors ≡ 0 = omega (arith, is.left) in
    leads-later config [] (first_lies config.wire n) progress.events (IsDrawing config progress.actors progress.events) (IsLastDue config)
    (steps-lead config seed ops (step_count ops) one size run (omega arith))
    (λ next now drawing. record {
      standing = drawing.standing;
      silent = drawing.silent;
      few = omega (arith, drawing.counted, is.events_counted, size.to_3000);
      in_phase = subst (λ (p : Phase). IsInPhase config next n p) (all-idle progress.actors (n - 1) nothing_owed) (drawing.in_phase n last);
    })

-- the last operation
last-leads : (config : Config) (entries : List Entry) (liar : LiarState) → config.wire ≡ 1 → IsClient config.clients config.clients
    → IsLastDue config entries liar → Leads config entries liar (last_operation config.clients) (IsQuiet config)
last-leads config entries liar one last due =
    let n = config.clients in
    let first : IsClient n 1 = record { from_one = omega arith; to_n = last.from_one } in
    let begun = read-plays config entries liar n 1 due.standing due.silent last due.few due.in_phase first in
    let come = arrive-plays config begun.next begun.now n phases.Begun phases.Arrived one begun.holds.standing begun.holds.silent last
    begun.holds.own refl refl in
    let replied = reply-plays config come.next come.now n one come.holds.standing come.holds.silent last come.holds.own in
    let done = arrive-plays config replied.next replied.now n phases.Replied phases.Idle one replied.holds.standing
    replied.holds.silent last replied.holds.own refl refl in
    record {
      next = begun.next;
      now = begun.now;
      played = begun.played;
      holds = record {
        next = come.next;
        now = come.now;
        played = come.played;
        holds = record {
          next = replied.next;
          now = replied.now;
          played = replied.played;
          holds = record {
            next = done.next;
            now = done.now;
            played = done.played;
            holds = record { standing = done.holds.standing; silent = done.holds.silent };
          };
        };
      };
    }

pub operations-lead : (config : Config) (seed ops : ℕ) → config.wire ≡ 1 → IsSampleSize config.clients ops → IsRun config []
    → Leads config [] (first_lies config.wire config.clients) (drawn_events seed config.clients ops ++ last_operation config.clients)
    (IsQuiet config)
operations-lead config seed ops one size run =
    let n = config.clients in
    let last : IsClient n n = record { from_one = omega (arith, size.clients_count.at_least_two); to_n = omega arith } in
    leads-append config [] (first_lies config.wire n) (drawn_events seed n ops) (last_operation n) (IsLastDue config) (IsQuiet config)
    (drawn-lead config seed ops one size run) (λ next now due. last-leads config next now one last due)
