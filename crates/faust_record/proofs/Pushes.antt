-- What a push to a record is due, and what it leaves.
use Rattle.std.proofs.Common.{◌≡◌, ◌+◌, ◌-◌, ◌<◌, ℕ, List, [], ◌∷◌, ◌++◌, length, get_or, Option, Some, None, Result, Ok, Err, refl, sym, ap, ◌∙◌, subst, arith}
use Rattle.std.proofs.lemmas.List.{append-nil, get_or_read}
use Rattle.std.specs.Prelude.{slice_set}
use Rattle.faust_types.specs.Clients.{IsClient}
use Rattle.faust_types.specs.Outcomes.{nothing}
use Rattle.faust_types.specs.declared.config.Config.{Config}
use Rattle.faust_types.specs.declared.outcome.Outcome.{Outcome}
use Rattle.faust_agent.specs.State.{Member, first_member}
use Rattle.faust_record.specs.Entries.{arrival_at, entry_at, member_after, replay}
use Rattle.faust_record.specs.Runs.{IsRun, Run, arriving, entries_of, next_message}
use Rattle.faust_record.specs.Refusals.{PushRefuses, acted, arrived, arrived_at, as_push_error, recorded, recorded_unless, refusal_at}
use Rattle.faust_record.specs.Acting.{Refused, member_at}
use Rattle.faust_record.specs.Kept.{AreFilled, AreParts, AreReplayed, AreWithin, IsActedIn, empty_outbox, message_at, outbox_of}
use Rattle.faust_record.specs.declared.entry.Input.{Input}
use Rattle.faust_record.specs.declared.entry.Input.TheVariants as inputs
use Rattle.faust_record.specs.declared.entry.Entry.{Entry}
use Rattle.faust_record.specs.declared.errors.Refusal.{Refusal}
use Rattle.faust_record.specs.declared.errors.Refusal.TheVariants as refusals
use Rattle.faust_record.specs.declared.errors.PushError.TheVariants as pushes
use Rattle.faust_record.specs.declared.outbox.Outbox.{Outbox}
use Rattle.faust_record.proofs.Runs.{run-acted, run-arrived}
use Rattle.faust_record.proofs.Agents.{replayed-arrival, replayed-own}
use Rattle.faust_record.proofs.Outboxes.{filled-set, message-due, outbox-arrival, outbox-own, outbox-within}

-- the agent and the outbox of a client, as they are read
pub agent-is : (config : Config) (agents : List Member) (entries : List Entry) (i : ℕ) (agent : Member) → AreReplayed config agents entries
    → IsClient config.clients i → agent ≡ get_or agents (i - 1) agent → agent ≡ member_after config i (entries_of i entries)
agent-is config agents entries i agent kept client read =
    let inside : i - 1 < length agents = omega (arith, kept.counted, client.from_one, client.to_n) in
    get_or_read agents (i - 1) agent inside read (first_member config i) ∙ kept.each i client

pub outbox-is : (n : ℕ) (outboxes : List Outbox) (entries : List Entry) (i : ℕ) (outbox : Outbox) → AreFilled n outboxes entries
    → IsClient n i → outbox ≡ get_or outboxes (i - 1) outbox → outbox ≡ outbox_of i entries
outbox-is n outboxes entries i outbox kept client read =
    let inside : i - 1 < length outboxes = omega (arith, kept.counted, client.from_one, client.to_n) in
    get_or_read outboxes (i - 1) outbox inside read empty_outbox ∙ kept.each i client

-- an input that was taken
pub parts-acted : (config : Config) (agents : List Member) (outboxes : List Outbox) (xs now : List Entry) (i : ℕ) (input : Input)
    (new : Member) (filled : Outbox) → AreParts config agents outboxes xs → IsClient config.clients i → arriving input ≡ None
    → IsActedIn xs now (member_after config i (entries_of i xs)) new (outbox_of i xs) filled input
    → AreParts config (slice_set agents (i - 1) new) (slice_set outboxes (i - 1) filled) now
parts-acted config agents outboxes xs now i input new filled kept client own act =
    let entry : Entry = entry_at config i (replay config i (entries_of i xs)) (length xs) input in
    let moved : new ≡ member_at (get_or agents (i - 1) (first_member config i)) input =
    act.moved ∙ ap (λ (m : Member). member_at m input) (sym (kept.replayed.each i client)) in
    let filled_is : filled ≡ outbox_of i (xs ++ entry ∷ []) = act.filled_is ∙ sym (outbox-own i xs entry refl own) in
    let parts : AreParts config (slice_set agents (i - 1) new) (slice_set outboxes (i - 1) filled) (xs ++ entry ∷ []) = record {
      run = run-acted config xs i input kept.run client act.may_come own;
      replayed = replayed-own config agents xs entry new kept.replayed client moved;
      filled = filled-set config.clients outboxes xs entry filled kept.filled client filled_is;
    } in
    subst (λ (l : List Entry). AreParts config (slice_set agents (i - 1) new) (slice_set outboxes (i - 1) filled) l)
    (sym act.appended) parts

pub push-taken : (run : Run) (i : ℕ) (input : Input) (now : List Entry) (new : Member) (outbox filled : Outbox)
    → IsActedIn run.entries now (member_after run.config i (entries_of i run.entries)) new outbox filled input
    → acted run i input ≡ Ok (record { config = run.config; entries = now })
unfolding acted
push-taken run i input now new outbox filled act =
    let st = replay run.config i (entries_of i run.entries) in
    ap (recorded_unless run (entry_at run.config i st (length run.entries) input)) act.taken
    ∙ ap (λ (l : List Entry). Ok (record { config = run.config; entries = l })) (sym act.appended)

-- a refusal of the client
refused-due : (run : Run) (i : ℕ) (input : Input) (refusal : Refusal)
    → refusal_at run.config i (replay run.config i (entries_of i run.entries)) input ≡ Some refusal
    → acted run i input ≡ Err (as_push_error refusal)
unfolding acted
refused-due run i input refusal is =
    let st = replay run.config i (entries_of i run.entries) in
    ap (recorded_unless run (entry_at run.config i st (length run.entries) input)) is

pub push-refused : (refusal : Refusal) (run same : Run) (i : ℕ) (input : Input) (now : List Entry) (new : Member)
    → Refused refusal run.entries now (member_after run.config i (entries_of i run.entries)) new input
    → same ≡ run → PushRefuses (as_push_error refusal) run same (acted run i input)
push-refused refusals.TooLong run same i input now new refused kept = (kept, refused-due run i input refusals.TooLong refused.refused)
push-refused refusals.NoRegister run same i input now new refused kept =
    (kept, refused-due run i input refusals.NoRegister refused.refused)
push-refused (refusals.Failed notice) run same i input now new refused kept =
    (kept, refused-due run i input (refusals.Failed notice) refused.refused)
push-refused refusals.Busy run same i input now new refused kept = (kept, refused-due run i input refusals.Busy refused.refused)
push-refused refusals.OutOfMemory run same i input now new refused kept = kept

-- an arrival
pub places-within : (i : ℕ) (xs : List Entry) → AreWithin (length xs) (outbox_of i xs).sent
places-within i xs = subst (λ (l : List Entry). AreWithin (length l) (outbox_of i xs).sent) (append-nil xs) (outbox-within i xs [])

pub next-due : (i : ℕ) (xs : List Entry) → message_at xs (outbox_of i xs) ≡ next_message i xs
next-due i xs = subst (λ (l : List Entry). message_at l (outbox_of i xs) ≡ next_message i xs) (append-nil xs) (message-due i xs [])

pub arrived-nothing : (run : Run) (i : ℕ) → next_message i run.entries ≡ None → arrived run i ≡ Err pushes.Nothing
unfolding arrived
arrived-nothing run i none = ap (arrived_at run i) none

pub arrived-due : (run : Run) (i : ℕ) (message : List ℕ) → next_message i run.entries ≡ Some message
    → arrived run i ≡ Ok (recorded run (arrival_at i (length run.entries) message))
unfolding arrived
arrived-due run i message due = ap (arrived_at run i) due

pub parts-arrived : (config : Config) (agents : List Member) (outboxes : List Outbox) (xs : List Entry) (i : ℕ) (message : List ℕ)
    (outbox taken : Outbox) → AreParts config agents outboxes xs → IsClient config.clients i → next_message i xs ≡ Some message
    → outbox ≡ outbox_of i xs → taken ≡ record outbox { arrived = outbox.arrived + 1 }
    → AreParts config agents (slice_set outboxes (i - 1) taken) (xs ++ arrival_at i (length xs) message ∷ [])
parts-arrived config agents outboxes xs i message outbox taken kept client due outbox_is taken_is =
    let entry : Entry = arrival_at i (length xs) message in
    let filled : taken ≡ outbox_of i (xs ++ entry ∷ []) =
    taken_is ∙ ap (λ (o : Outbox). record o { arrived = o.arrived + 1 }) outbox_is
    ∙ sym (outbox-arrival i xs entry message refl refl refl) in
    record {
      run = run-arrived config xs i message kept.run client due;
      replayed = replayed-arrival config agents xs entry message kept.replayed refl;
      filled = filled-set config.clients outboxes xs entry taken kept.filled client filled;
    }

-- an arrival as it is written down
pub arrival-entry : (number k : ℕ) (message : List ℕ) (outcome : Outcome) (n i : ℕ) → number ≡ n → k ≡ i → outcome ≡ nothing
    → record { number = number; client = k; input = inputs.Arrive message; outcome = outcome } ≡ arrival_at i n message
arrival-entry number k message outcome n i number_is client_is outcome_is =
    let entry : ℕ → ℕ → Outcome → Entry = λ (q : ℕ) (j : ℕ) (o : Outcome). record
    { number = q; client = j; input = inputs.Arrive message; outcome = o } in
    ap (λ (q : ℕ). entry q k outcome) number_is ∙ ap (λ (j : ℕ). entry n j outcome) client_is ∙ ap (entry n i) outcome_is
