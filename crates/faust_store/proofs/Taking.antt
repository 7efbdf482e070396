-- How a run takes what a line says: the entry of a run is taken from the line that spells it, and what is taken is an
-- entry that the line spells.
use Rattle.std.proofs.Common.{◌≡◌, ◌-◌, ℕ, Bool, true, false, Option, Some, None, Result, Ok, Err, List, [], ◌∷◌, ◌++◌, length, refl, sym, ap, ◌∙◌, subst, inl, inr, arith, length-append}
use Rattle.std.specs.Prelude.{◌==◌, cond, IfSome, option_and_then, slice_get}
use Rattle.std.specs.Str.{bytes_eq}
use Rattle.std.proofs.lemmas.Bool.{cases_Bool, cond-false, cond-true}
use Rattle.std.proofs.lemmas.Slice.Eq.{bytes_eq-Decides}
use Rattle.faust_types.specs.Clients.{IsClient}
use Rattle.faust_text.specs.declared.cause.Cause.{Cause}
use Rattle.faust_text.specs.declared.cause.Cause.TheVariants as causes
use Rattle.faust_text.specs.Fields.{◌>>=◌}
use Rattle.faust_text.proofs.FieldLaws.{bind_ok}
use Rattle.faust_record.specs.Acting.{AreInputBytes}
use Rattle.faust_record.specs.Entries.{arrival_at, entry_at, replay}
use Rattle.faust_record.specs.Laws.{pushed_as}
use Rattle.faust_record.specs.Refusals.{IsInput, acted, arrived, arrived_at, push_of, recorded, recorded_unless, refusal_at}
use Rattle.faust_record.specs.Runs.{IsRun, Run, arriving, entries_of, next_message}
use Rattle.faust_record.specs.declared.entry.Input.{Input}
use Rattle.faust_record.specs.declared.entry.Input.TheVariants as inputs
use Rattle.faust_record.specs.declared.entry.Entry.{Entry}
use Rattle.faust_record.specs.declared.errors.PushError.{PushError}
use Rattle.faust_record.specs.declared.errors.Refusal.{Refusal}
use Rattle.faust_record.specs.declared.run_record.PushInput.TheVariants as given
use Rattle.faust_record.proofs.Inputs.{may-come}
use Rattle.faust_record.proofs.Runs.{run-acted, run-arrived}
use Rattle.faust_store.specs.declared.entry_line.EntryLine.{EntryLine}
use Rattle.faust_store.specs.declared.entry_line.EntryLine.TheVariants as lines
use Rattle.faust_store.specs.InRange.{IsLineFor}
use Rattle.faust_store.specs.Kept.{arrival_of, last_arrival}
use Rattle.faust_store.specs.Reading.{arriving_as, framed, is_due, pushed, taken}
use Rattle.faust_store.specs.Records.{SpellsArrival, SpellsInput, SpellsLine}

-- What the line of an entry says.
abbrev pub said_as : ℕ → ℕ → Input → EntryLine
said_as version i (inputs.Write value) = lines.Comes i (given.Write value)
said_as version i (inputs.Read register) = lines.Comes i (given.Read register)
said_as version i (inputs.Reply bytes) = lines.Comes i (given.Reply bytes)
said_as version i (inputs.Peer bytes) = lines.Comes i (given.Peer bytes)
said_as version i (inputs.Tick moment) = lines.Comes i (given.Tick moment)
said_as version i (inputs.Arrive message) = cond (version == 1) (lines.Comes i given.Arrive) (lines.Arrives i message)

pub spells_said : (version n i : ℕ) (input : Input) (tokens : List (List ℕ)) → SpellsInput version n i input tokens
    → SpellsLine version n (said_as version i input) tokens
spells_said version n i (inputs.Write value) tokens spelled = spelled
spells_said version n i (inputs.Read register) tokens spelled = spelled
spells_said version n i (inputs.Reply bytes) tokens spelled = spelled
spells_said version n i (inputs.Peer bytes) tokens spelled = spelled
spells_said version n i (inputs.Tick moment) tokens spelled = spelled
spells_said version n i (inputs.Arrive message) tokens spelled =
    let alone = lines.Comes i given.Arrive in
    let named = lines.Arrives i message in
    elim (cases_Bool (version == 1)) [
      | inl one ↦ subst (λ (l : EntryLine). SpellsLine version n l tokens) (sym (cond-true (version == 1) alone named one))
          (one, subst (λ (b : Bool). SpellsArrival b n i message tokens) one spelled)
      | inr two ↦ subst (λ (l : EntryLine). SpellsLine version n l tokens) (sym (cond-false (version == 1) alone named two))
          (two, subst (λ (b : Bool). SpellsArrival b n i message tokens) two spelled)
    ]

-- The entry of a run is taken.
pub same_bytes : (bytes : List ℕ) → bytes_eq bytes bytes ≡ true
same_bytes bytes = (bytes_eq-Decides bytes bytes).1 refl

pub taken_by : (version : ℕ) (run next : Run) (i : ℕ) (input : Input) → push_of run i (pushed_as input) ≡ Ok next
    → IfSome (arriving input) (λ message. next_message i run.entries ≡ Some message)
    → taken run (said_as version i input) ≡ Ok next
unfolding taken
taken_by version run next i (inputs.Write value) push fed = ap pushed push
taken_by version run next i (inputs.Read register) push fed = ap pushed push
taken_by version run next i (inputs.Reply bytes) push fed = ap pushed push
taken_by version run next i (inputs.Peer bytes) push fed = ap pushed push
taken_by version run next i (inputs.Tick moment) push fed = ap pushed push
taken_by version run next i (inputs.Arrive message) push fed =
    let alone = lines.Comes i given.Arrive in
    let named = lines.Arrives i message in
    elim (cases_Bool (version == 1)) [
      | inl one ↦ ap (taken run) (cond-true (version == 1) alone named one) ∙ ap pushed push
      | inr two ↦ ap (taken run) (cond-false (version == 1) alone named two)
          ∙ (ap (λ (r : Result Run PushError). pushed r >>= (λ after. framed message (next_message i run.entries) after)) push
          ∙ (ap (λ (due : Option (List ℕ)). framed message due next) fed
          ∙ cond-true (bytes_eq message message) (Ok next) (Err causes.Frame) (same_bytes message)))
    ]

-- What is taken.
pub record IsTaken (version n : ℕ) (run next : Run) (line : EntryLine) : Type 0 where
  pub entry : Entry
  pub next_is : recorded run entry ≡ next
  pub number_is : entry.number ≡ length run.entries
  pub is_run : IsRun run.config (run.entries ++ entry ∷ [])
  pub spelled : (tokens : List (List ℕ)) → SpellsLine version n line tokens → SpellsInput version n entry.client entry.input tokens

pushed_only : (r : Result Run PushError) (next : Run) → pushed r ≡ Ok next → r ≡ Ok next
pushed_only (Ok run) next is = let same : run ≡ next = cc in ap Ok same
pushed_only (Err e) next is = absurd (cc)

unless_only : (run next : Run) (e : Entry) (r : Option Refusal) → recorded_unless run e r ≡ Ok next → (r ≡ None) × (recorded run e ≡ next)
unless_only run next e None is = (refl, cc)
unless_only run next e (Some refusal) is = absurd (cc)

act_taken : (version n : ℕ) (run next : Run) (i : ℕ) (input : Input) (line : EntryLine) → IsRun run.config run.entries
    → IsClient run.config.clients i → IsInput input → AreInputBytes input → arriving input ≡ None
    → ((tokens : List (List ℕ)) → SpellsLine version n line tokens → SpellsInput version n i input tokens)
    → acted run i input ≡ Ok next → IsTaken version n run next line
unfolding acted
act_taken version n run next i input line kept client sized bytes own spells push =
    let st = replay run.config i (entries_of i run.entries) in
    let parts = unless_only run next (entry_at run.config i st (length run.entries) input) (refusal_at run.config i st input) push in
    record {
      entry = entry_at run.config i st (length run.entries) input;
      next_is = parts.1;
      number_is = refl;
      is_run = run-acted run.config run.entries i input kept client (may-come run.config i st input parts.0 sized bytes) own;
      spelled = spells;
    }

-- An arrival: the message that was due is the last entry's.
pub record IsArrivedIn (run next : Run) (i : ℕ) : Type 0 where
  pub message : List ℕ
  pub due : next_message i run.entries ≡ Some message
  pub longer : recorded run (arrival_at i (length run.entries) message) ≡ next

arrived_parts : (run next : Run) (i : ℕ) (due : Option (List ℕ)) → next_message i run.entries ≡ due → arrived_at run i due ≡ Ok next
    → IsArrivedIn run next i
arrived_parts run next i None is push = absurd (cc)
arrived_parts run next i (Some message) is push = record { message = message; due = is; longer = cc }

pub arrival_parts : (run next : Run) (i : ℕ) → pushed (push_of run i given.Arrive) ≡ Ok next → IsArrivedIn run next i
unfolding arrived
arrival_parts run next i is =
    arrived_parts run next i (next_message i run.entries) refl (pushed_only (push_of run i given.Arrive) next is)

arrival_taken : (version n : ℕ) (run next : Run) (i : ℕ) (line : EntryLine) (a : IsArrivedIn run next i) → IsRun run.config run.entries
    → IsClient run.config.clients i
    → ((tokens : List (List ℕ)) → SpellsLine version n line tokens → SpellsArrival (version == 1) n i a.message tokens)
    → IsTaken version n run next line
arrival_taken version n run next i line a kept client spells = record {
  entry = arrival_at i (length run.entries) a.message;
  next_is = a.longer;
  number_is = refl;
  is_run = run-arrived run.config run.entries i a.message kept client a.due;
  spelled = spells;
}

framed_only : (message : List ℕ) (due : Option (List ℕ)) (run next : Run) → framed message due run ≡ Ok next
    → (due ≡ Some message) × (run ≡ next)
framed_only message None run next is = absurd (cc)
framed_only message (Some due) run next is =
    elim (cases_Bool (bytes_eq due message)) [
      | inl same ↦
          let kept : run ≡ next = let e = sym (cond-true (bytes_eq due message) (Ok run) (Err causes.Frame) same) ∙ is in cc in
          (ap Some ((bytes_eq-Decides due message).0 same), kept)
      | inr other ↦ absurd (let e = sym (cond-false (bytes_eq due message) (Ok run) (Err causes.Frame) other) ∙ is in cc)
    ]

some_bytes : (x y : List ℕ) → (let left : Option (List ℕ) = Some x in left ≡ Some y) → x ≡ y
some_bytes x y same = cc

pub taken_only : (version n : ℕ) (run next : Run) (line : EntryLine) → IsRun run.config run.entries → IsLineFor run.config.clients line
    → taken run line ≡ Ok next → IsTaken version n run next line
unfolding taken
taken_only version n run next (lines.Comes i (given.Write value)) kept fits is =
    act_taken version n run next i (inputs.Write value) (lines.Comes i (given.Write value)) kept fits.0 tt fits.1.bytes_each refl
    (λ tokens spelled. spelled) (pushed_only (push_of run i (given.Write value)) next is)
taken_only version n run next (lines.Comes i (given.Read register)) kept fits is =
    act_taken version n run next i (inputs.Read register) (lines.Comes i (given.Read register)) kept fits.0 tt tt refl
    (λ tokens spelled. spelled) (pushed_only (push_of run i (given.Read register)) next is)
taken_only version n run next (lines.Comes i (given.Reply bytes)) kept fits is =
    act_taken version n run next i (inputs.Reply bytes) (lines.Comes i (given.Reply bytes)) kept fits.0 fits.1.sized fits.1.bytes_each refl
    (λ tokens spelled. spelled) (pushed_only (push_of run i (given.Reply bytes)) next is)
taken_only version n run next (lines.Comes i (given.Peer bytes)) kept fits is =
    act_taken version n run next i (inputs.Peer bytes) (lines.Comes i (given.Peer bytes)) kept fits.0 fits.1.sized fits.1.bytes_each refl
    (λ tokens spelled. spelled) (pushed_only (push_of run i (given.Peer bytes)) next is)
taken_only version n run next (lines.Comes i (given.Tick moment)) kept fits is =
    act_taken version n run next i (inputs.Tick moment) (lines.Comes i (given.Tick moment)) kept fits.0 fits.1 tt refl
    (λ tokens spelled. spelled) (pushed_only (push_of run i (given.Tick moment)) next is)
taken_only version n run next (lines.Comes i given.Arrive) kept fits is =
    let a = arrival_parts run next i is in
    arrival_taken version n run next i (lines.Comes i given.Arrive) a kept fits.0
    (λ tokens spelled. subst (λ (b : Bool). SpellsArrival b n i a.message tokens) (sym spelled.0) spelled.1)
taken_only version n run next (lines.Arrives i message) kept fits is =
    let after = bind_ok (pushed (push_of run i given.Arrive)) (λ after. framed message (next_message i run.entries) after) next is in
    let frame = framed_only message (next_message i run.entries) after.0 next after.2 in
    let a = arrival_parts run next i (after.1 ∙ ap Ok frame.1) in
    let same : message ≡ a.message = some_bytes message a.message (sym frame.0 ∙ a.due) in
    arrival_taken version n run next i (lines.Arrives i message) a kept fits
    (λ tokens spelled. subst (λ (m : List ℕ). SpellsArrival (version == 1) n i m tokens) same
    (subst (λ (b : Bool). SpellsArrival b n i message tokens) (sym spelled.0) spelled.1))

-- The message of the last entry is the one that was due.
last_item : (xs : List Entry) (x : Entry) → slice_get (xs ++ x ∷ []) (length xs) ≡ Some x
last_item [] x = refl
last_item (y ∷ xs) x = last_item xs x

last_arrived : (run next : Run) (i : ℕ) → pushed (push_of run i given.Arrive) ≡ Ok next
    → last_arrival next.entries ≡ next_message i run.entries
last_arrived run next i is =
    let a = arrival_parts run next i is in
    let entry : Entry = arrival_at i (length run.entries) a.message in
    let place : length (run.entries ++ entry ∷ []) - 1 ≡ length run.entries = omega (arith, length-append run.entries (entry ∷ [])) in
    ap (λ (r : Run). last_arrival r.entries) (sym a.longer)
    ∙ (ap (λ (q : ℕ). option_and_then arrival_of (slice_get (run.entries ++ entry ∷ []) q)) place
    ∙ (ap (option_and_then arrival_of) (last_item run.entries entry) ∙ sym a.due))

arrived_as : (run next : Run) (i : ℕ) (message : List ℕ) → pushed (push_of run i given.Arrive) ≡ Ok next
    → arriving_as run i message ≡ framed message (last_arrival next.entries) next
arrived_as run next i message is =
    ap (λ (r : Result Run Cause). r >>= (λ after. framed message (next_message i run.entries) after)) is
    ∙ ap (λ (due : Option (List ℕ)). framed message due next) (sym (last_arrived run next i is))

pub message_taken : (run next : Run) (i : ℕ) (message : List ℕ) → pushed (push_of run i given.Arrive) ≡ Ok next
    → is_due message (last_arrival next.entries) ≡ true → arriving_as run i message ≡ Ok next
message_taken run next i message is due =
    arrived_as run next i message is ∙ cond-true (is_due message (last_arrival next.entries)) (Ok next) (Err causes.Frame) due

pub message_refused : (run next : Run) (i : ℕ) (message : List ℕ) → pushed (push_of run i given.Arrive) ≡ Ok next
    → is_due message (last_arrival next.entries) ≡ false → arriving_as run i message ≡ Err causes.Frame
message_refused run next i message is other =
    arrived_as run next i message is ∙ cond-false (is_due message (last_arrival next.entries)) (Ok next) (Err causes.Frame) other
