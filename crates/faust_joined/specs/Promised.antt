-- What runs keep in which no reply departs from the protocol. The promises of this crate rest on this file.
use Rattle.std.specs.Prelude.{◌≡◌, ◌⊎◌, ℕ, true, List, [], ◌∷◌, ◌++◌, None, Some, IsSome}
use Rattle.faust_types.specs.Versions.{Vector, IsAtMost}
use Rattle.faust_types.specs.declared.config.Config.{Config}
use Rattle.faust_types.specs.declared.operation.OpName.{OpName}
use Rattle.faust_types.specs.declared.message.PeerMessage.{PeerMessage}
use Rattle.faust_tags.specs.Bodies.{peer_body}
use Rattle.faust_lists.specs.Names.{AreDistinct, Has}
use Rattle.faust_names.specs.Histories.{History, IsCompleted, IsOperation, Precedes}
use Rattle.faust_names.specs.Views.{IsBefore, IsLegal}
use Rattle.faust_agent.specs.Deeds.{peer_in}
use Rattle.faust_agent.specs.State.{version_at}
use Rattle.faust_agent.specs.Table.{is_signed}
use Rattle.faust_record.specs.Entries.{replay}
use Rattle.faust_record.specs.Made.{made_behind}
use Rattle.faust_record.specs.Runs.{entries_of}
use Rattle.faust_record.specs.declared.entry.Input.TheVariants as inputs
use Rattle.faust_record.specs.declared.entry.Entry.{Entry}

-- A message between clients whose tag is right has a body that was made in an earlier entry. Of the tags in replies
-- nothing is asked.
abbrev pub IsPeerMade : Config → List Entry → Entry → Type 0
IsPeerMade config before entry =
    (bytes : List ℕ) (message : PeerMessage) → entry.input ≡ inputs.Peer bytes → peer_in config bytes ≡ Some message
    → is_signed config message ≡ true → Has (made_behind config [] before) (peer_body message)

abbrev pub ArePeersMade : Config → List Entry → List Entry → Type 0
ArePeersMade config before [] = Unit {0}
ArePeersMade config before (entry ∷ rest) = IsPeerMade config before entry × ArePeersMade config (before ++ entry ∷ []) rest

-- Nothing comes to a client from another client.
abbrev pub AreWithoutPeers : List Entry → Type 0
AreWithoutPeers [] = Unit {0}
AreWithoutPeers (entry ∷ rest) = ((bytes : List ℕ) → entry.input ≡ inputs.Peer bytes → ⊥) × AreWithoutPeers rest

-- No client has a notice in an entry, and a reply completes an operation.
pub record IsWellGiven (entry : Entry) : Type 0 where
  pub no_notice : entry.outcome.notice ≡ None
  pub completes : (bytes : List ℕ) → entry.input ≡ inputs.Reply bytes → IsSome entry.outcome.answer

abbrev pub AreWellGiven : List Entry → Type 0
AreWellGiven [] = Unit {0}
AreWellGiven (entry ∷ rest) = IsWellGiven entry × AreWellGiven rest

-- A client made the version in one of the entries: it completed an operation there, and behind that entry the version is
-- its own.
pub record IsMadeIn (config : Config) (entries : List Entry) (version : Vector) : Type 0 where
  pub front : List Entry
  pub entry : Entry
  pub rest : List Entry
  pub stands : entries ≡ front ++ entry ∷ rest
  pub completes : IsSome entry.outcome.answer
  pub is_own : version ≡ version_at (replay config entry.client (entries_of entry.client (front ++ entry ∷ []))) entry.client

-- Of any two versions that clients made, one is at most the other.
abbrev pub AreVersionsComparable : Config → List Entry → Type 0
AreVersionsComparable config entries = (v w : Vector) → IsMadeIn config entries v → IsMadeIn config entries w
    → IsAtMost v w ⊎ IsAtMost w v

-- An order is a linearization of a history: its names are those of operations, none stands twice, it has every operation
-- that completed, each read in it answers what was written last before it, and what completed before another began stands
-- before it.
pub record IsLinearizableBy (h : History) (order : List OpName) : Type 0 where
  pub operations : (a : OpName) → Has order a → IsOperation h a
  pub distinct : AreDistinct order
  pub complete : (a : OpName) → IsCompleted h a → Has order a
  pub legal : IsLegal h order
  pub real_time : (a b : OpName) → Precedes h a b → Has order a → Has order b → IsBefore order a b
