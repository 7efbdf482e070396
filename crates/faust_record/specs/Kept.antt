-- What journals and records keep in memory, and how contracts see it: the agents are replays, and an outbox has the
-- places of the entries that sent. It helps proofs.
use Rattle.std.specs.Prelude.{◌≡◌, ◌==◌, ◌&&◌, ◌-◌, ◌<◌, ℕ, zero, suc, cond, Bool, List, [], ◌∷◌, ◌++◌, Option, Some, None, Result, Ok, Err, length, is_some, option_and_then, slice_get, slice_index, slice_index_or}
use Rattle.faust_types.specs.Clients.{IsClient}
use Rattle.faust_types.specs.Outcomes.{nothing}
use Rattle.faust_types.specs.declared.config.Config.{Config}
use Rattle.faust_agent.specs.State.{Member, first_member}
use Rattle.faust_record.specs.Entries.{MayCome, member_after, outcome_at}
use Rattle.faust_record.specs.Runs.{IsRun, Run, arrived_in, entries_of}
use Rattle.faust_record.specs.Journals.{IsJournal, Log, member_of}
use Rattle.faust_record.specs.Acting.{Refused, entry_by, member_at, refused_by}
use Rattle.faust_record.specs.declared.entry.Input.{Input}
use Rattle.faust_record.specs.declared.entry.Input.TheVariants as inputs
use Rattle.faust_record.specs.declared.entry.Entry.{Entry}
use Rattle.faust_record.specs.declared.errors.Refusal.{Refusal}
use Rattle.faust_record.specs.declared.outbox.Outbox.{Outbox}
use Rattle.faust_record.specs.declared.journal.Journal.TheInside as journals
use Rattle.faust_record.specs.declared.run_record.RunRecord.TheInside as records

-- The journal in memory.
abbrev pub log_of : journals.Inside → Log
log_of j = record { config = j.agent.config; me = j.agent.me; entries = j.entries }

pub record IsKeptJournal (j : journals.Inside) : Type 0 where
  pub journal : IsJournal (log_of j)
  pub replayed : j.agent ≡ member_of (log_of j)

-- The places from q on at which client i sent something to the server.
abbrev pub is_sender : ℕ → Entry → Bool
is_sender i entry = (entry.client == i) && is_some entry.outcome.to_server

abbrev pub places_of : ℕ → ℕ → List Entry → List ℕ
places_of i q [] = []
places_of i q (entry ∷ rest) = cond (is_sender i entry) (q ∷ places_of i (suc q) rest) (places_of i (suc q) rest)

abbrev pub outbox_of : ℕ → List Entry → Outbox
outbox_of i entries = record { sent = places_of i 0 entries; arrived = length (arrived_in (entries_of i entries)) }

abbrev pub empty_outbox : Outbox
empty_outbox = record { sent = []; arrived = 0 }

-- The message that arrives next, by the place of the entry that sent it.
abbrev pub blank_entry : Entry
blank_entry = record { number = 0; client = 0; input = inputs.Tick 0; outcome = nothing }

abbrev pub sent_at : List Entry → ℕ → Option (List ℕ)
sent_at entries place = (slice_index_or entries place blank_entry).outcome.to_server

abbrev pub message_at : List Entry → Outbox → Option (List ℕ)
message_at entries outbox = option_and_then (sent_at entries) (slice_get outbox.sent outbox.arrived)

-- Each place is below a length.
abbrev pub AreWithin : ℕ → List ℕ → Type 0
AreWithin n places = (k : ℕ) → k < length places → slice_index places k < n

-- The outbox after an entry at this place, which may have sent something; and the parts of a record after an input.
abbrev pub sent_after : Outbox → ℕ → Option (List ℕ) → Outbox
sent_after outbox place None = outbox
sent_after outbox place (Some message) = record outbox { sent = outbox.sent ++ place ∷ [] }

pub record IsActedIn (before now : List Entry) (old new : Member) (outbox filled : Outbox) (input : Input) : Type 0 where
  pub taken : refused_by old input ≡ None
  pub may_come : MayCome old.config old.me old.client input
  pub appended : now ≡ before ++ entry_by old (length before) input ∷ []
  pub moved : new ≡ member_at old input
  pub filled_is : filled ≡ sent_after outbox (length before) (outcome_at old.config old.me old.client input).to_server

pub record IsRefusedIn (before now : List Entry) (old new : Member) (outbox same : Outbox) (input : Input) (refusal : Refusal) : Type
    0 where
  pub refused : Refused refusal before now old new input
  pub same_outbox : same ≡ outbox

abbrev pub ActsIn : {Done : Type 0} → Result Done Refusal → List Entry → List Entry → Member → Member → Outbox → Outbox → Input → Type 0
ActsIn (Ok done) before now old new outbox filled input = IsActedIn before now old new outbox filled input
ActsIn (Err refusal) before now old new outbox same input = IsRefusedIn before now old new outbox same input refusal

-- The agents of the first k clients before any entry.
abbrev pub first_members : Config → ℕ → List Member
first_members config zero = []
first_members config (suc k) = first_members config k ++ first_member config (suc k) ∷ []

-- The record in memory.
abbrev pub run_of : records.Inside → Run
run_of r = record { config = r.config; entries = r.entries }

abbrev pub agent_in : Config → List Member → ℕ → Member
agent_in config agents i = slice_index_or agents (i - 1) (first_member config i)

abbrev pub outbox_in : List Outbox → ℕ → Outbox
outbox_in outboxes i = slice_index_or outboxes (i - 1) empty_outbox

-- The agents and outboxes of all clients after entries.
pub record AreReplayed (config : Config) (agents : List Member) (entries : List Entry) : Type 0 where
  pub counted : length agents ≡ config.clients
  pub each : (i : ℕ) → IsClient config.clients i → agent_in config agents i ≡ member_after config i (entries_of i entries)

pub record AreFilled (n : ℕ) (outboxes : List Outbox) (entries : List Entry) : Type 0 where
  pub counted : length outboxes ≡ n
  pub each : (i : ℕ) → IsClient n i → outbox_in outboxes i ≡ outbox_of i entries

pub record AreParts (config : Config) (agents : List Member) (outboxes : List Outbox) (entries : List Entry) : Type 0 where
  pub run : IsRun config entries
  pub replayed : AreReplayed config agents entries
  pub filled : AreFilled config.clients outboxes entries

abbrev pub IsKeptRun : records.Inside → Type 0
IsKeptRun r = AreParts r.config r.agents.items r.outboxes.items r.entries
