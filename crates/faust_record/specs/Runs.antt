-- What a run is: every promise of this crate rests on it. Entries stand oldest first. A run is stated by what each
-- client's own entries are; how they lie between one another is said of the messages that arrive alone.
use Rattle.std.specs.Prelude.{◌≡◌, ◌==◌, ℕ, suc, cond, List, [], ◌∷◌, ◌++◌, length, Option, Some, None, IfSome, slice_get, option_to_list}
use Rattle.faust_types.specs.Clients.{IsClient}
use Rattle.faust_types.specs.Ranges.{IsConfig}
use Rattle.faust_types.specs.declared.config.Config.{Config}
use Rattle.faust_agent.specs.State.{first_client}
use Rattle.faust_record.specs.Entries.{Obeys}
use Rattle.faust_record.specs.declared.entry.Input.{Input}
use Rattle.faust_record.specs.declared.entry.Input.TheVariants as inputs
use Rattle.faust_record.specs.declared.entry.Entry.{Entry}

-- A record: a config and entries.
pub record Run : Type 0 where
  pub config : Config
  pub entries : List Entry

abbrev pub first_run : Config → Run
first_run config = record { config = config; entries = [] }

-- The entries of client i.
abbrev pub entries_of : ℕ → List Entry → List Entry
entries_of i [] = []
entries_of i (entry ∷ rest) = cond (entry.client == i) (entry ∷ entries_of i rest) (entries_of i rest)

-- What entries sent to the server, in order; and the messages that arrived there.
abbrev pub sent_in : List Entry → List (List ℕ)
sent_in [] = []
sent_in (entry ∷ rest) = option_to_list entry.outcome.to_server ++ sent_in rest

abbrev pub arriving : Input → Option (List ℕ)
arriving (inputs.Write value) = None
arriving (inputs.Read register) = None
arriving (inputs.Reply bytes) = None
arriving (inputs.Peer bytes) = None
arriving (inputs.Tick moment) = None
arriving (inputs.Arrive message) = Some message

abbrev pub arrived_in : List Entry → List (List ℕ)
arrived_in [] = []
arrived_in (entry ∷ rest) = option_to_list (arriving entry.input) ++ arrived_in rest

-- The next message of client i to arrive: the first one that it sent and that didn't arrive.
abbrev pub next_in : List Entry → Option (List ℕ)
next_in own = slice_get (sent_in own) (length (arrived_in own))

abbrev pub next_message : ℕ → List Entry → Option (List ℕ)
next_message i entries = next_in (entries_of i entries)

-- An entry behind others is fed by them: if it is an arrival, its message is the next one of its client.
abbrev pub IsFed : List Entry → Entry → Type 0
IsFed before entry = IfSome (arriving entry.input) (λ message. next_message entry.client before ≡ Some message)

abbrev pub AreFed : List Entry → List Entry → Type 0
AreFed before [] = Unit {0}
AreFed before (entry ∷ rest) = IsFed before entry × AreFed (before ++ entry ∷ []) rest

-- Entries are numbered from q on, and each is of one of n clients.
abbrev pub AreNumbered : ℕ → List Entry → Type 0
AreNumbered q [] = Unit {0}
AreNumbered q (entry ∷ rest) = (entry.number ≡ q) × AreNumbered (suc q) rest

abbrev pub AreOfClients : ℕ → List Entry → Type 0
AreOfClients n [] = Unit {0}
AreOfClients n (entry ∷ rest) = IsClient n entry.client × AreOfClients n rest

-- A run: the entry at place q has number q, each client's entries obey its table from its first state on, and each
-- arrival is of the message of its client that is due.
pub record IsRun (config : Config) (entries : List Entry) : Type 0 where
  pub config_in_range : IsConfig config
  pub numbered : AreNumbered 0 entries
  pub of_clients : AreOfClients config.clients entries
  pub obeyed : (i : ℕ) → IsClient config.clients i → Obeys config i (first_client config.clients i) (entries_of i entries)
  pub fed : AreFed [] entries
