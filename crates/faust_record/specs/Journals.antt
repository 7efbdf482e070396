-- One client's entries: what a journal keeps.
use Rattle.std.specs.Prelude.{◌≡◌, ◌-◌, ◌<◌, ◌≤◌, ℕ, suc, List, [], ◌∷◌, length, Option, None, IfSome, slice_get}
use Rattle.faust_types.specs.Clients.{IsClient}
use Rattle.faust_types.specs.Ranges.{IsConfig}
use Rattle.faust_types.specs.declared.config.Config.{Config}
use Rattle.faust_agent.specs.State.{Member, first_client}
use Rattle.faust_record.specs.Entries.{Obeys, member_after}
use Rattle.faust_record.specs.Runs.{arriving}
use Rattle.faust_record.specs.declared.entry.Entry.{Entry}

-- A journal: whose it is, of which run, and its entries.
pub record Log : Type 0 where
  pub config : Config
  pub me : ℕ
  pub entries : List Entry

abbrev pub first_log : Config → ℕ → Log
first_log config me = record { config = config; me = me; entries = [] }

-- The client after its entries.
abbrev pub member_of : Log → Member
member_of log = member_after log.config log.me log.entries

-- The last entry, if there is one.
abbrev pub last_of : List Entry → Option Entry
last_of entries = slice_get entries (length entries - 1)

-- A number may come behind entries: it is greater than that of the last one.
abbrev pub IsNumberBehind : List Entry → ℕ → Type 0
IsNumberBehind entries number = IfSome (last_of entries) (λ (last : Entry). last.number < number)

-- The numbers of entries rise, from the least one on.
abbrev pub AreRising : ℕ → List Entry → Type 0
AreRising least [] = Unit {0}
AreRising least (entry ∷ rest) = (least ≤ entry.number) × AreRising (suc entry.number) rest

-- Entries are of client me, and none is an arrival.
pub record IsOwn (me : ℕ) (entry : Entry) : Type 0 where
  pub of_client : entry.client ≡ me
  pub no_arrival : arriving entry.input ≡ None

abbrev pub AreOwn : ℕ → List Entry → Type 0
AreOwn me [] = Unit {0}
AreOwn me (entry ∷ rest) = IsOwn me entry × AreOwn me rest

-- What every journal keeps: at most 200,000 entries of its client, with rising numbers, that obey its table.
pub record IsJournal (log : Log) : Type 0 where
  pub config_in_range : IsConfig log.config
  pub me_in_range : IsClient log.config.clients log.me
  pub few : length log.entries ≤ 200000
  pub own : AreOwn log.me log.entries
  pub rising : AreRising 0 log.entries
  pub obeyed : Obeys log.config log.me (first_client log.config.clients log.me) log.entries

-- Each of these is a journal.
abbrev pub AreJournals : List Log → Type 0
AreJournals [] = Unit {0}
AreJournals (log ∷ rest) = IsJournal log × AreJournals rest
