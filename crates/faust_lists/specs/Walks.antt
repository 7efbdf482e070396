-- What versions and walks stand for: a history. A promise on histories that clients hold rests on this file.
use Rattle.std.specs.Prelude.{◌≡◌, ℕ, List, [], ◌∷◌, length}
use Rattle.faust_types.specs.Clients.{IsClient}
use Rattle.faust_types.specs.Versions.{Vector, clients_of, timestamp_at, digest_at}
use Rattle.faust_hash.specs.Chain.{chain_input, chain_of, input_digest}
use Rattle.faust_ustor.specs.declared.walk.Walk.{Walk}
use Rattle.faust_lists.specs.Lists.{count, last_to}
use Rattle.faust_lists.specs.Names.{Has}

-- The version is that of a history: each timestamp counts the operations of its client, and each digest is that of
-- the chain up to the last one of them.
pub record IsVersionOf (n : ℕ) (v : Vector) (w : List ℕ) : Type 0 where
  pub sized : clients_of v ≡ n
  pub paired : length v.digests ≡ n
  pub timestamps : (k : ℕ) → IsClient n k → timestamp_at v k ≡ count k w
  pub digests : (k : ℕ) → IsClient n k → digest_at v k ≡ chain_of (last_to k w)

-- The walk of a client came to the end of a history.
pub record IsWalkOf (n : ℕ) (walk : Walk) (w : List ℕ) : Type 0 where
  pub version : IsVersionOf n walk.version w
  pub digest : walk.digest ≡ chain_of w

-- Each chain of the history was hashed.
abbrev pub AreHashed : List (List ℕ) → List ℕ → Type 0
AreHashed hashed [] = Unit {0}
AreHashed hashed (k ∷ w) = Has hashed (chain_input (chain_of w) k) × AreHashed hashed w

-- No two hashed inputs have one digest.
abbrev pub IsFree : List (List ℕ) → Type 0
IsFree hashed = (x y : List ℕ) → Has hashed x → Has hashed y → input_digest x ≡ input_digest y → x ≡ y
