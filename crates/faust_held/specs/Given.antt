-- What a ledger has of the versions that clients hold and give away. No promise rests on this file; it serves the laws.
use Rattle.std.specs.Prelude.{◌≡◌, ◌⊎◌, ℕ, true, List}
use Rattle.faust_types.specs.Clients.{IsClient}
use Rattle.faust_types.specs.Versions.{IsAtMost, is_comparable, is_initial, timestamp_at}
use Rattle.faust_types.specs.declared.config.Config.{Config}
use Rattle.faust_types.specs.declared.message.Known.{Known}
use Rattle.faust_types.specs.declared.message.Peer.TheVariants as peers
use Rattle.faust_types.specs.declared.message.PeerMessage.{PeerMessage}
use Rattle.faust_agent.specs.State.{slot_in}
use Rattle.faust_lists.specs.Names.{Has}
use Rattle.faust_forks.specs.Books.{Completed, Done}
use Rattle.faust_forks.specs.Forks.{IsBooked}
use Rattle.faust_forks.specs.Pasts.{Past}
use Rattle.faust_forks.specs.Sources.{Source, of_peer}
use Rattle.faust_record.specs.declared.entry.Entry.{Entry}
use Rattle.faust_runs.specs.Ledgers.{client_after}

-- A version is initial, or that of a completion of its maker.
abbrev pub IsBookedFor : List Done → Known → Type 0
IsBookedFor book known = IsBooked book known.maker known.version

-- Client k said the version to another client.
pub record IsSaidBy (made : List Source) (k : ℕ) (known : Known) : Type 0 where
  pub message : PeerMessage
  pub in_made : Has made (of_peer message)
  pub from_k : message.from ≡ k
  pub says : message.peer ≡ peers.Version known

-- Client k gave the version away: it completed an operation with it, or said it.
pub data IsGiven (book : List Done) (made : List Source) (k : ℕ) (known : Known) : Type 0 where
  by_completion : known.maker ≡ k → Completed book k (timestamp_at known.version k) (λ done. done.version ≡ known.version)
      → IsGiven book made k known
  by_message : IsSaidBy made k known → IsGiven book made k known

-- The versions that client me holds are those of completions and pairwise comparable, and those of other clients were
-- given by them.
pub record AreHeld (n : ℕ) (book : List Done) (made : List Source) (me : ℕ) (heard : List Known) : Type 0 where
  pub booked : (k : ℕ) → IsClient n k → IsBookedFor book (slot_in heard k)
  pub agree : (k l : ℕ) → IsClient n k → IsClient n l → is_comparable (slot_in heard k).version (slot_in heard l).version ≡ true
  pub given : (k : ℕ) → IsClient n k → (k ≡ me → ⊥)
      → (is_initial (slot_in heard k).version ≡ true) ⊎ IsGiven book made k (slot_in heard k)

-- A version is that of a completion, and at most one that is held.
pub record IsBelowHeld (n : ℕ) (book : List Done) (heard : List Known) (known : Known) : Type 0 where
  pub booked : IsBookedFor book known
  pub at : ℕ
  pub client : IsClient n at
  pub below : IsAtMost known.version (slot_in heard at).version

-- So it is of the versions that all clients hold, and each version that a client said is at most one that it holds.
pub record AreAllHeld (config : Config) (entries : List Entry) (past : Past) : Type 0 where
  pub held : (i : ℕ) → IsClient config.clients i → AreHeld config.clients past.book past.made i (client_after config i entries).heard
  pub said : (message : PeerMessage) (known : Known) → Has past.made (of_peer message) → message.peer ≡ peers.Version known
      → IsBelowHeld config.clients past.book (client_after config message.from entries).heard known
