-- How the server compares two committed versions, by their timestamps alone: `Rows` rests on it.
use Rattle.std.specs.Prelude.{◌≢◌, ℕ, ◌<◌, ◌≤◌, ◌&&◌, zero, suc, Bool, true, not, List, length, slice_index, nat_le}

-- One vector of timestamps is ahead of another where it is at least the other in every place and differs from it.
pub record IsAhead (v w : List ℕ) : Type 0 where
  pub at_least : (k : ℕ) → k < length v → slice_index w k ≤ slice_index v k
  pub differs : v ≢ w

-- The same as a test: v is at least w in every place, and w isn't at least v.
abbrev pub covers_up_to : List ℕ → List ℕ → ℕ → Bool
covers_up_to v w zero = true
covers_up_to v w (suc k) = covers_up_to v w k && nat_le (slice_index w k) (slice_index v k)

unfoldable pub covers : List ℕ → List ℕ → Bool
covers v w = covers_up_to v w (length v)

abbrev pub is_ahead : List ℕ → List ℕ → Bool
is_ahead v w = covers v w && not (covers w v)
