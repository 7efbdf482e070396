-- The five bodies that a client tags, and the tag of a body: every promise on tags rests on them. A body begins with
-- the number of its kind.
use Rattle.std.specs.Prelude.{ℕ, List, ◌∷◌, ◌++◌, Option}
use Rattle.faust_hash.specs.Hmac.{hmac_of}
use Rattle.faust_types.specs.Spelling.{be64, kind_byte, optional, peer_front, version_bytes}
use Rattle.faust_types.specs.Versions.{Vector, clients_of}
use Rattle.faust_types.specs.declared.operation.Kind.{Kind}
use Rattle.faust_types.specs.declared.message.PeerMessage.{PeerMessage}

-- Operation t of its maker is a write or a read of this register.
unfoldable pub submit_body : ℕ → Kind → ℕ → ℕ → List ℕ
submit_body maker kind register t = 1 ∷ maker ∷ kind_byte kind ∷ register ∷ be64 t

-- At operation t the maker's own register holds the value of this digest, or was never written.
unfoldable pub data_body : ℕ → ℕ → Option (List ℕ) → List ℕ
data_body maker t value = (2 ∷ maker ∷ be64 t) ++ optional value

-- The maker completed an operation with this version.
unfoldable pub commit_body : ℕ → Vector → List ℕ
commit_body maker version = 3 ∷ maker ∷ clients_of version ∷ version_bytes version

-- The maker completed an operation with this digest in its own place.
unfoldable pub proof_body : ℕ → List ℕ → List ℕ
proof_body maker digest = 4 ∷ maker ∷ digest

-- A message between clients, spelled up to its tag as under version 1 of the wire, whichever version it goes by.
unfoldable pub peer_body : PeerMessage → List ℕ
peer_body message = 5 ∷ peer_front 1 message

-- The tag of a body under a key: HMAC with SHA-256.
abbrev pub tag_of : List ℕ → List ℕ → List ℕ
tag_of key body = hmac_of key body
