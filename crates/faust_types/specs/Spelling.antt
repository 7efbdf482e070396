-- The bytes of versions and of peer messages, which the wire and the tags share.
use Rattle.std.specs.Prelude.{ℕ, cond, List, [], ◌∷◌, ◌++◌, Option, Some, None, flat_map}
use Rattle.std.specs.Int.{to_be_bytes, w64}
use Rattle.faust_types.specs.Versions.{Vector, is_initial}
use Rattle.faust_types.specs.declared.operation.Kind.{Kind}
use Rattle.faust_types.specs.declared.operation.Kind.TheVariants.{Write, Read}
use Rattle.faust_types.specs.declared.message.Known.{Known}
use Rattle.faust_types.specs.declared.message.Peer.{Peer}
use Rattle.faust_types.specs.declared.message.Peer.TheVariants as peers
use Rattle.faust_types.specs.declared.message.PeerMessage.{PeerMessage}

-- A number in eight bytes, big end first.
unfoldable pub be64 : ℕ → List ℕ
be64 t = to_be_bytes w64 t

-- Optional 32 bytes: the flag 0, or the flag 1 and the bytes.
abbrev pub optional : Option (List ℕ) → List ℕ
optional None = 0 ∷ []
optional (Some bytes) = 1 ∷ bytes

-- A version: its timestamps, then its digests.
unfoldable pub version_bytes : Vector → List ℕ
version_bytes v = flat_map be64 v.timestamps ++ flat_map optional v.digests

abbrev pub kind_byte : Kind → ℕ
kind_byte Write = 1
kind_byte Read = 2

-- A version between clients: 0 for the initial version, or its maker, its bytes and the maker's tag.
unfoldable pub announced : Known → List ℕ
announced known = cond (is_initial known.version) (0 ∷ []) (known.maker ∷ (version_bytes known.version ++ known.tag))

-- What tells the three peer messages apart, and what each carries.
abbrev pub peer_byte : Peer → ℕ
peer_byte peers.Probe = 4
peer_byte (peers.Version known) = 5
peer_byte (peers.Failure check) = 6

abbrev pub peer_content : Peer → List ℕ
peer_content peers.Probe = []
peer_content (peers.Version known) = announced known
peer_content (peers.Failure check) = check ∷ []

-- A peer message up to its tag, from the byte of the wire's version on.
unfoldable pub peer_front : ℕ → PeerMessage → List ℕ
peer_front wire message = wire ∷ peer_byte message.peer ∷ message.from ∷ message.to ∷ peer_content message.peer
