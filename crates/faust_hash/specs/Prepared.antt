-- What the code keeps of a key that is made ready for tags. No promise rests on it: callers see the key.
use Rattle.std.specs.Prelude.{◌≡◌, ℕ, List}
use Rattle.sha2.specs.Hashers.{Holds256}
use Rattle.sha2.specs.declared.Sha256.{Sha256}
use Rattle.faust_hash.specs.Hmac.{block_key, inner_pad, masked, outer_pad}

-- The block is the key's, and two hashes have taken in nothing but that block, one under each pad.
pub record IsPrepared (key block : List ℕ) (inner outer : Sha256) : Type 0 where
  pub of_key : block ≡ block_key key
  pub under_inner_pad : Holds256 inner (masked (block_key key) inner_pad)
  pub under_outer_pad : Holds256 outer (masked (block_key key) outer_pad)
