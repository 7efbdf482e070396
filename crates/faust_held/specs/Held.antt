-- The versions that clients hold and give away, read off a record. The promises on them rest on this file.
use Rattle.std.specs.Prelude.{◌≡◌, ◌⊎◌, ℕ, true, false, List, None, Some}
use Rattle.faust_types.specs.Clients.{IsClient}
use Rattle.faust_types.specs.Versions.{Vector, is_comparable, is_initial, timestamp_at}
use Rattle.faust_types.specs.declared.config.Config.{Config}
use Rattle.faust_types.specs.declared.operation.Notice.{Notice}
use Rattle.faust_types.specs.declared.message.Known.{Known}
use Rattle.faust_types.specs.declared.message.Peer.TheVariants as peers
use Rattle.faust_types.specs.declared.message.PeerMessage.{PeerMessage}
use Rattle.faust_agent.specs.State.{slot_at}
use Rattle.faust_agent.specs.Table.{posts_of}
use Rattle.faust_lists.specs.Names.{Has}
use Rattle.faust_names.specs.Histories.{named}
use Rattle.faust_record.specs.Entries.{deed_at}
use Rattle.faust_record.specs.declared.entry.Entry.{Entry}
use Rattle.faust_runs.specs.ForkViews.{version_of}
use Rattle.faust_runs.specs.Ledgers.{client_after}

-- What client i holds after entries as the version heard from client k; its own version where k is i.
abbrev pub held_by : Config → List Entry → ℕ → ℕ → Known
held_by config before i k = slot_at (client_after config i before) k

-- A version is initial, or that of the operation of its maker that it counts last, which completed in the entries.
abbrev pub IsOfCompletion : Config → List Entry → Known → Type 0
IsOfCompletion config entries known =
    (is_initial known.version ≡ true)
    ⊎ (version_of config entries (named known.maker (timestamp_at known.version known.maker)) ≡ Some known.version)

-- The versions that a client holds are pairwise comparable.
abbrev pub HoldsComparable : Config → List Entry → ℕ → Type 0
HoldsComparable config before i = (k l : ℕ) → IsClient config.clients k → IsClient config.clients l
    → is_comparable (held_by config before i k).version (held_by config before i l).version ≡ true

-- Client k sends a version to another client, in an entry behind others.
pub record SendsVersion (config : Config) (before : List Entry) (entry : Entry) (known : Known) : Type 0 where
  pub message : PeerMessage
  pub is_sent : Has (posts_of config entry.client (client_after config entry.client before)
      (deed_at config entry.client (client_after config entry.client before) entry.input)) message
  pub says : message.peer ≡ peers.Version known

-- The client of an entry behind others had no notice before it; and the entry gives it one.
abbrev pub HadNoNotice : Config → List Entry → Entry → Type 0
HadNoNotice config before entry = (client_after config entry.client before).notice ≡ None

pub record GivesNotice (entry : Entry) : Type 0 where
  pub notice : Notice
  pub is_given : entry.outcome.notice ≡ Some notice

-- A version is comparable neither way with one that the client of an entry held before it.
pub record IsApartFromHeld (config : Config) (before : List Entry) (entry : Entry) (version : Vector) : Type 0 where
  pub k : ℕ
  pub client : IsClient config.clients k
  pub apart : is_comparable version (held_by config before entry.client k).version ≡ false
