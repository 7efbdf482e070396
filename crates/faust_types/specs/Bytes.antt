-- Which lists of numbers are bytes, digests and values; every promise on messages rests on these.
use Rattle.std.specs.Prelude.{◌≡◌, ℕ, ◌<◌, ◌≤◌, List, length, slice_index}

-- Each item is a byte.
abbrev pub AreBytes : List ℕ → Type 0
AreBytes bytes = (i : ℕ) → slice_index bytes i < 256

-- 32 bytes, as a digest and a tag have.
pub record IsDigest (bytes : List ℕ) : Type 0 where
  pub sized : length bytes ≡ 32
  pub bytes_each : AreBytes bytes

-- At most 4,096 bytes, as a value has.
pub record IsValue (bytes : List ℕ) : Type 0 where
  pub sized : length bytes ≤ 4096
  pub bytes_each : AreBytes bytes

-- 1 to 128 bytes, as a key has.
pub record IsKey (bytes : List ℕ) : Type 0 where
  pub not_empty : 1 ≤ length bytes
  pub sized : length bytes ≤ 128
