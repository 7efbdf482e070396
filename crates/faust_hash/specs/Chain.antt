-- The digests that versions and writes carry: of a chain of client numbers, and of a value. Each hashed
-- input begins with a byte that says which of both it is. Promises rest on these definitions.
use Rattle.std.specs.Prelude.{ℕ, List, [], ◌∷◌, ◌++◌, Option, None, Some}
use Rattle.sha2.specs.Sha256.{sha256}

-- What is hashed to put client k behind the chain that has this digest; the empty chain has none.
abbrev pub chain_input : Option (List ℕ) → ℕ → List ℕ
chain_input None k = 0x10 ∷ k ∷ []
chain_input (Some digest) k = (0x10 ∷ digest) ++ (k ∷ [])

-- What is hashed of a value.
abbrev pub value_input : List ℕ → List ℕ
value_input value = 0x11 ∷ value

-- The digest of a hashed input, whatever was hashed: two inputs of one digest are a collision.
unfoldable pub input_digest : List ℕ → List ℕ
input_digest input = sha256 input

-- The digest of a chain with client k put behind it.
unfoldable pub link : Option (List ℕ) → ℕ → List ℕ
link before k = sha256 (chain_input before k)

-- The chain digest of a list of client numbers, the last of them first.
abbrev pub chain_of : List ℕ → Option (List ℕ)
chain_of [] = None
chain_of (k ∷ before) = Some (link (chain_of before) k)

-- The digest of a value.
unfoldable pub value_digest_of : List ℕ → List ℕ
value_digest_of value = sha256 (value_input value)
