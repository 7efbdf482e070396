-- Which versions an entry brings to its client, and when incomparable versions meet in it. A promise of clients is
-- stated in them; no call of this crate rests on this file.
use Rattle.std.specs.Prelude.{◌≡◌, ℕ, true, List, Some, None, Ok}
use Rattle.faust_types.specs.Clients.{IsClient}
use Rattle.faust_types.specs.Versions.{Vector, IsOrder}
use Rattle.faust_types.specs.declared.version.Compared.TheVariants.{Apart}
use Rattle.faust_types.specs.declared.config.Config.{Config}
use Rattle.faust_types.specs.declared.operation.Operation.{Operation}
use Rattle.faust_types.specs.declared.message.Known.{Known}
use Rattle.faust_types.specs.declared.message.ReadPart.{ReadPart}
use Rattle.faust_types.specs.declared.message.Reply.{Reply}
use Rattle.faust_types.specs.declared.message.Peer.TheVariants as peers
use Rattle.faust_types.specs.declared.message.PeerMessage.{PeerMessage}
use Rattle.faust_ustor.specs.Checks.{judged}
use Rattle.faust_ustor.specs.declared.judgement.Judged.{Judged}
use Rattle.faust_agent.specs.State.{version_at}
use Rattle.faust_agent.specs.Deeds.{peer_in, reply_in}
use Rattle.faust_agent.specs.Table.{is_signed}
use Rattle.faust_agent.specs.declared.client.Client.{Client}
use Rattle.faust_record.specs.Entries.{replay}
use Rattle.faust_record.specs.Runs.{entries_of}
use Rattle.faust_record.specs.declared.entry.Input.{Input}
use Rattle.faust_record.specs.declared.entry.Input.TheVariants as inputs
use Rattle.faust_record.specs.declared.entry.Entry.{Entry}

-- A REPLY brings the version of c, the version of j where there is a read part, and, where an operation is pending
-- and the reply is accepted up to its version, the next version: also where that then turns out not to be comparable.
pub data BringsReply (config : Config) (me : ℕ) (st : Client) (reply : Reply) (version : Vector) : Type 0 where
  version_of_c : version ≡ reply.version.version → BringsReply config me st reply version
  version_of_j : (part : ReadPart) → reply.read ≡ Some part → version ≡ part.version.version → BringsReply config me st reply version
  next_version : (op : Operation) → st.waiting ≡ Some op
      → (answer : Judged) → judged config.key me (version_at st me) op reply ≡ Ok answer → version ≡ answer.next
      → BringsReply config me st reply version

-- A message of another client brings the version of a VERSION that is addressed to this client and has a right tag.
pub record BringsMessage (config : Config) (me : ℕ) (message : PeerMessage) (version : Vector) : Type 0 where
  pub known : Known
  pub is_version : message.peer ≡ peers.Version known
  pub addressed : message.to ≡ me
  pub signed : is_signed config message ≡ true
  pub is_brought : version ≡ known.version

-- What comes to client me, which holds st, brings a version.
pub data Brings (config : Config) (me : ℕ) (st : Client) (input : Input) (version : Vector) : Type 0 where
  by_reply : (bytes : List ℕ) → input ≡ inputs.Reply bytes
      → (reply : Reply) → reply_in config bytes ≡ Some reply → BringsReply config me st reply version
      → Brings config me st input version
  by_message : (bytes : List ℕ) → input ≡ inputs.Peer bytes
      → (message : PeerMessage) → peer_in config bytes ≡ Some message → BringsMessage config me message version
      → Brings config me st input version

-- The versions that a client holds: that of each client that it heard, its own among them.
pub record Holds (n : ℕ) (st : Client) (version : Vector) : Type 0 where
  pub k : ℕ
  pub is_client : IsClient n k
  pub is_held : version ≡ version_at st k

-- Incomparable versions meet in an entry behind others: its client had no notice before it, and a version that the
-- entry brings is apart from one that the client held before it.
abbrev pub holder : Config → List Entry → Entry → Client
holder config before entry = replay config entry.client (entries_of entry.client before)

pub record MeetIncomparable (config : Config) (before : List Entry) (entry : Entry) : Type 0 where
  pub unnoticed : (holder config before entry).notice ≡ None
  pub brought : Vector
  pub is_brought : Brings config entry.client (holder config before entry) entry.input brought
  pub held : Vector
  pub is_held : Holds config.clients (holder config before entry) held
  pub are_apart : IsOrder Apart brought held
