-- Which configs and messages are in range: of messages for n clients those that have a spelling. Every promise on
-- messages rests on these.
use Rattle.std.specs.Prelude.{◌≡◌, ◌≢◌, ℕ, ◌^◌, ◌<◌, ◌≤◌, true, false, List, length, Option, IsNone, IfSome, IsSomeAnd, replicate}
use Rattle.std.specs.List.{AllByRecursion}
pub use Rattle.faust_types.specs.Bytes.{AreBytes, IsDigest, IsKey, IsValue}
use Rattle.faust_types.specs.Clients.{IsClient, IsClientCount}
use Rattle.faust_types.specs.Versions.{Vector, IsVersion, clients_of, is_initial}
use Rattle.faust_types.specs.declared.config.Config.{Config}
use Rattle.faust_types.specs.declared.operation.Kind.{Kind}
use Rattle.faust_types.specs.declared.operation.Kind.TheVariants.{Write, Read}
use Rattle.faust_types.specs.declared.message.Known.{Known}
use Rattle.faust_types.specs.declared.message.Tuple.{Tuple}
use Rattle.faust_types.specs.declared.message.Mem.{Mem}
use Rattle.faust_types.specs.declared.message.ReadPart.{ReadPart}
use Rattle.faust_types.specs.declared.message.Submit.{Submit}
use Rattle.faust_types.specs.declared.message.Reply.{Reply}
use Rattle.faust_types.specs.declared.message.Commit.{Commit}
use Rattle.faust_types.specs.declared.message.Peer.{Peer}
use Rattle.faust_types.specs.declared.message.Peer.TheVariants as peers
use Rattle.faust_types.specs.declared.message.PeerMessage.{PeerMessage}
use Rattle.faust_types.specs.declared.message.Message.{Message}
use Rattle.faust_types.specs.declared.message.Message.TheVariants as messages

-- The second version of the wire lets a COMMIT ride on the next SUBMIT.
pub record IsWire (wire : ℕ) : Type 0 where
  pub from_one : 1 ≤ wire
  pub to_two : wire ≤ 2

-- A moment.
abbrev pub IsMoment : ℕ → Type 0
IsMoment m = m < 2 ^ 40

-- A span of moments.
pub record IsSpan (span : ℕ) : Type 0 where
  pub from_one : 1 ≤ span
  pub below : span < 2 ^ 40

-- What the clients of a run may share.
pub record IsConfig (config : Config) : Type 0 where
  pub clients_count : IsClientCount config.clients
  pub key_sized : IsKey config.key
  pub delta_span : IsSpan config.delta
  pub dummy_span : IsSpan config.dummy
  pub wire_known : IsWire config.wire

-- The number of an operation.
pub record IsOperationNumber (t : ℕ) : Type 0 where
  pub from_one : 1 ≤ t
  pub below : t < 2 ^ 40

-- A version of n clients.
pub record IsVersionFor (n : ℕ) (v : Vector) : Type 0 where
  pub count : clients_of v ≡ n
  pub kept : IsVersion v

-- A version made by the given client; the initial version has maker 0 and a tag of zero bytes.
pub record IsKnownBy (n maker : ℕ) (known : Known) : Type 0 where
  pub version_in_range : IsVersionFor n known.version
  pub tag_sized : IsDigest known.tag
  pub unsigned : is_initial known.version ≡ true → (known.maker ≡ 0) × (known.tag ≡ replicate 32 0)
  pub signed : is_initial known.version ≡ false → known.maker ≡ maker

pub record IsTupleFor (n : ℕ) (tuple : Tuple) : Type 0 where
  pub client_in_range : IsClient n tuple.client
  pub register_in_range : IsClient n tuple.register
  pub tag_sized : IsDigest tuple.tag

pub record IsMem (mem : Mem) : Type 0 where
  pub number : IsOperationNumber mem.t
  pub value_in_range : IfSome mem.value IsValue
  pub tag_sized : IsDigest mem.tag

pub record IsReadPartFor (n : ℕ) (part : ReadPart) : Type 0 where
  pub register_in_range : IsClient n part.register
  pub version_known : IsKnownBy n part.register part.version
  pub mem_in_range : IfSome part.mem IsMem

pub record IsReplyFor (n : ℕ) (reply : Reply) : Type 0 where
  pub client_in_range : IsClient n reply.c
  pub version_known : IsKnownBy n reply.c reply.version
  pub few_pending : length reply.pending ≤ 31
  pub pending_in_range : AllByRecursion (IsTupleFor n) reply.pending
  pub proofs_counted : length reply.proofs ≡ n
  pub proofs_sized : AllByRecursion (λ proof. IfSome proof IsDigest) reply.proofs
  pub read_in_range : IfSome reply.read (IsReadPartFor n)

-- A write has a value, a read has none.
abbrev pub IsValueOf : Kind → Option (List ℕ) → Type 0
IsValueOf Write value = IsSomeAnd value IsValue
IsValueOf Read value = IsNone value

pub record IsCommitFor (n : ℕ) (commit : Commit) : Type 0 where
  pub version_in_range : IsVersionFor n commit.version
  pub not_initial : is_initial commit.version ≡ false
  pub commit_tag_sized : IsDigest commit.commit_tag
  pub proof_tag_sized : IsDigest commit.proof_tag

-- A COMMIT that rides on it is in range too.
pub record IsSubmitFor (n : ℕ) (submit : Submit) : Type 0 where
  pub register_in_range : IsClient n submit.register
  pub number : IsOperationNumber submit.t
  pub value_in_range : IsValueOf submit.kind submit.value
  pub submit_tag_sized : IsDigest submit.submit_tag
  pub data_tag_sized : IsDigest submit.data_tag
  pub commit_in_range : IfSome submit.commit (IsCommitFor n)

-- The number of a check.
pub record IsCheck (check : ℕ) : Type 0 where
  pub from_one : 1 ≤ check
  pub to_15 : check ≤ 15

-- A version between clients: its maker is a client, unless it is initial.
pub record IsAnnouncedFor (n : ℕ) (known : Known) : Type 0 where
  pub known_by : IsKnownBy n known.maker known
  pub maker_in_range : is_initial known.version ≡ false → IsClient n known.maker

abbrev pub IsPeerFor : ℕ → Peer → Type 0
IsPeerFor n peers.Probe = Unit {0}
IsPeerFor n (peers.Version known) = IsAnnouncedFor n known
IsPeerFor n (peers.Failure check) = IsCheck check

pub record IsPeerMessageFor (n : ℕ) (message : PeerMessage) : Type 0 where
  pub from_in_range : IsClient n message.from
  pub to_in_range : IsClient n message.to
  pub differ : message.from ≢ message.to
  pub peer_in_range : IsPeerFor n message.peer
  pub tag_sized : IsDigest message.tag

abbrev pub IsMessageFor : ℕ → Message → Type 0
IsMessageFor n (messages.Submit submit) = IsSubmitFor n submit
IsMessageFor n (messages.Reply reply) = IsReplyFor n reply
IsMessageFor n (messages.Commit commit) = IsCommitFor n commit
IsMessageFor n (messages.Peer message) = IsPeerMessageFor n message
IsMessageFor n (messages.Hello client) = IsClient n client
