-- The bodies that clients made, each kept as what it was made of. The premise that no tag is forged speaks of them.
use Rattle.std.specs.Prelude.{◌≡◌, ℕ, List, [], ◌∷◌, Option}
use Rattle.faust_types.specs.Versions.{Vector}
use Rattle.faust_types.specs.Ranges.{IsOperationNumber, IsPeerMessageFor, IsVersionFor}
use Rattle.faust_types.specs.declared.operation.Kind.{Kind}
use Rattle.faust_types.specs.declared.message.PeerMessage.{PeerMessage}
use Rattle.faust_tags.specs.Bodies.{commit_body, data_body, peer_body, proof_body, submit_body}
use Rattle.faust_lists.specs.Names.{Has}

-- What a body was made of: a SUBMIT of a client, with its kind, register and number; the digest of the client's own
-- register at an operation; a version; a digest in the client's own place; or a message to another client.
pub data Source : Type 0 where
  of_submit : ℕ → Kind → ℕ → ℕ → Source
  of_data : ℕ → ℕ → Option (List ℕ) → Source
  of_commit : ℕ → Vector → Source
  of_proof : ℕ → List ℕ → Source
  of_peer : PeerMessage → Source

abbrev pub body_of : Source → List ℕ
body_of (of_submit k kind register t) = submit_body k kind register t
body_of (of_data k t value) = data_body k t value
body_of (of_commit k v) = commit_body k v
body_of (of_proof k digest) = proof_body k digest
body_of (of_peer message) = peer_body message

-- The body was made.
pub record IsMade (made : List Source) (body : List ℕ) : Type 0 where
  pub source : Source
  pub in_made : Has made source
  pub spelled : body_of source ≡ body

-- What is spelled is in range for n clients.
abbrev pub IsSourceFor : ℕ → Source → Type 0
IsSourceFor n (of_submit k kind register t) = IsOperationNumber t
IsSourceFor n (of_data k t value) = IsOperationNumber t
IsSourceFor n (of_commit k v) = IsVersionFor n v
IsSourceFor n (of_proof k digest) = Unit {0}
IsSourceFor n (of_peer message) = IsPeerMessageFor n message

abbrev pub AreSources : ℕ → List Source → Type 0
AreSources n [] = Unit {0}
AreSources n (source ∷ made) = IsSourceFor n source × AreSources n made

-- A message between clients was sent: one that says the same, from the same client to the same client.
pub record IsSent (made : List Source) (message : PeerMessage) : Type 0 where
  pub sent : PeerMessage
  pub in_made : Has made (of_peer sent)
  pub same_from : sent.from ≡ message.from
  pub same_to : sent.to ≡ message.to
  pub same_peer : sent.peer ≡ message.peer
