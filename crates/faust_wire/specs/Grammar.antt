-- The bytes of each piece and of each message, in the order of the tables of docs/formats.md: what `decode` and
-- `encode` promise rests on them. `wire` is the version of the wire, 1 or 2. It is the first byte of each message,
-- and under wire 2 a SUBMIT says whether a COMMIT rides on it.
use Rattle.std.specs.Prelude.{◌≡◌, ◌==◌, ℕ, cond, List, [], ◌∷◌, ◌++◌, length, Option, Some, None, IsNone, flat_map}
use Rattle.std.specs.Int.{to_be_bytes, w16}
use Rattle.faust_types.specs.Versions.{Vector, is_initial}
use Rattle.faust_types.specs.Spelling.{be64, optional, version_bytes, kind_byte, peer_front}
use Rattle.faust_types.specs.Ranges.{IsMessageFor, IsVersionFor}
use Rattle.faust_types.specs.declared.message.Known.{Known}
use Rattle.faust_types.specs.declared.message.Tuple.{Tuple}
use Rattle.faust_types.specs.declared.message.Mem.{Mem}
use Rattle.faust_types.specs.declared.message.ReadPart.{ReadPart}
use Rattle.faust_types.specs.declared.message.Submit.{Submit}
use Rattle.faust_types.specs.declared.message.Reply.{Reply}
use Rattle.faust_types.specs.declared.message.Commit.{Commit}
use Rattle.faust_types.specs.declared.message.PeerMessage.{PeerMessage}
use Rattle.faust_types.specs.declared.message.Message.{Message}
use Rattle.faust_types.specs.declared.message.Message.TheVariants as messages

-- A signed version: 0 for the initial version, or 1, the version's bytes and its maker's tag.
unfoldable pub signed_bytes : Known → List ℕ
signed_bytes known = cond (is_initial known.version) (0 ∷ []) (1 ∷ (version_bytes known.version ++ known.tag))

-- A value: its length in two bytes, big end first, and its bytes.
unfoldable pub value_bytes : List ℕ → List ℕ
value_bytes bytes = to_be_bytes w16 (length bytes) ++ bytes

-- A value or none behind a flag.
abbrev pub optional_value_bytes : Option (List ℕ) → List ℕ
optional_value_bytes None = 0 ∷ []
optional_value_bytes (Some bytes) = 1 ∷ value_bytes bytes

-- The memory of a register, or nothing.
abbrev pub memory_bytes : Option Mem → List ℕ
memory_bytes None = 0 ∷ []
memory_bytes (Some mem) = 1 ∷ (be64 mem.t ++ optional_value_bytes mem.value ++ mem.tag)

-- A tuple of the pending list.
abbrev pub tuple_bytes : Tuple → List ℕ
tuple_bytes t = t.client ∷ kind_byte t.kind ∷ t.register ∷ t.tag

-- What a reply adds for a read, or nothing.
abbrev pub read_part_bytes : Option ReadPart → List ℕ
read_part_bytes None = 0 ∷ []
read_part_bytes (Some part) = 1 ∷ part.register ∷ (signed_bytes part.version ++ memory_bytes part.mem)

-- The value of a write; for a read nothing.
abbrev pub written_bytes : Option (List ℕ) → List ℕ
written_bytes None = []
written_bytes (Some bytes) = value_bytes bytes

-- What a COMMIT carries.
abbrev pub commit_content : Commit → List ℕ
commit_content m = version_bytes m.version ++ m.commit_tag ++ m.proof_tag

-- The COMMIT that rides on a SUBMIT, or none, behind a flag.
abbrev pub optional_commit_bytes : Option Commit → List ℕ
optional_commit_bytes None = 0 ∷ []
optional_commit_bytes (Some commit) = 1 ∷ commit_content commit

-- Under wire 1 there is no place for it.
abbrev pub riding_bytes : ℕ → Option Commit → List ℕ
riding_bytes wire commit = cond (wire == 1) [] (optional_commit_bytes commit)

unfoldable pub submit_bytes : ℕ → Submit → List ℕ
submit_bytes wire m =
    wire ∷ 1 ∷ kind_byte m.kind ∷ m.register
    ∷ (be64 m.t ++ m.submit_tag ++ m.data_tag ++ written_bytes m.value ++ riding_bytes wire m.commit)

unfoldable pub reply_bytes : ℕ → Reply → List ℕ
reply_bytes wire m =
    let pending = length m.pending ∷ flat_map tuple_bytes m.pending in
    wire ∷ 2 ∷ m.c ∷ (signed_bytes m.version ++ pending ++ flat_map optional m.proofs ++ read_part_bytes m.read)

unfoldable pub commit_bytes : ℕ → Commit → List ℕ
commit_bytes wire m = wire ∷ 3 ∷ commit_content m

-- PROBE, VERSION and FAILURE.
unfoldable pub peer_bytes : ℕ → PeerMessage → List ℕ
peer_bytes wire m = peer_front wire m ++ m.tag

abbrev pub hello_bytes : ℕ → ℕ → List ℕ
hello_bytes wire client = wire ∷ 7 ∷ client ∷ []

abbrev pub spelling : ℕ → Message → List ℕ
spelling wire (messages.Submit m) = submit_bytes wire m
spelling wire (messages.Reply m) = reply_bytes wire m
spelling wire (messages.Commit m) = commit_bytes wire m
spelling wire (messages.Peer m) = peer_bytes wire m
spelling wire (messages.Hello client) = hello_bytes wire client

-- Under wire 1 no COMMIT rides.
abbrev pub IsForWire : ℕ → Message → Type 0
IsForWire wire (messages.Submit m) = wire ≡ 1 → IsNone m.commit
IsForWire wire (messages.Reply m) = Unit {0}
IsForWire wire (messages.Commit m) = Unit {0}
IsForWire wire (messages.Peer m) = Unit {0}
IsForWire wire (messages.Hello client) = Unit {0}

-- The bytes, all of them, spell this message under this wire, and it is in range for n clients.
pub record IsSpellingOf (wire n : ℕ) (bytes : List ℕ) (message : Message) : Type 0 where
  pub in_range : IsMessageFor n message
  pub for_wire : IsForWire wire message
  pub spelled : bytes ≡ spelling wire message

-- The bytes, all of them, are the version bytes of this version of n clients.
pub record IsVersionSpelling (n : ℕ) (bytes : List ℕ) (v : Vector) : Type 0 where
  pub in_range : IsVersionFor n v
  pub spelled : bytes ≡ version_bytes v
