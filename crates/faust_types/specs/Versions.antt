-- Versions and their order: what every promise on versions rests on.
use Rattle.std.specs.Prelude.{◌≡◌, ℕ, ◌+◌, ◌-◌, ◌^◌, ◌<◌, ◌≤◌, ◌↔◌, ◌==◌, ◌&&◌, ◌||◌, zero, suc, Bool, true, false, cond, List, length, Option, Some, None, IsNone, IfSome, replicate, slice_index, slice_index_or, slice_set, nat_lt}
use Rattle.std.specs.Str.{bytes_eq}
use Rattle.faust_types.specs.Bytes.{IsDigest}
use Rattle.faust_types.specs.Clients.{IsClientCount, IsClient}
use Rattle.faust_types.specs.declared.version.Compared.{Compared}
use Rattle.faust_types.specs.declared.version.Compared.TheVariants.{Less, Equal, Greater, Apart}

-- A version: for each client, from client 1 on, a timestamp and a digest or none.
pub record Vector : Type 0 where
  pub timestamps : List ℕ
  pub digests : List (Option (List ℕ))

-- How many clients the version is for.
abbrev pub clients_of : Vector → ℕ
clients_of v = length v.timestamps

-- V[k] and M[k], for a client k.
abbrev pub timestamp_at : Vector → ℕ → ℕ
timestamp_at v k = slice_index v.timestamps (k - 1)

abbrev pub digest_at : Vector → ℕ → Option (List ℕ)
digest_at v k = slice_index_or v.digests (k - 1) None

-- The initial version of n clients.
abbrev pub initial : ℕ → Vector
initial n = record { timestamps = replicate n 0; digests = replicate n None }

-- The version with timestamp t and digest d in the place of client k.
abbrev pub with_entry : Vector → ℕ → ℕ → List ℕ → Vector
with_entry v k t d = record {
  timestamps = slice_set v.timestamps (k - 1) t;
  digests = slice_set v.digests (k - 1) (Some d);
}

-- One more operation of client k, with the digest d after it.
abbrev pub stepped : Vector → ℕ → List ℕ → Vector
stepped v k d = with_entry v k (timestamp_at v k + 1) d

-- What every version keeps: one digest place a timestamp, timestamps below 2 ^ 40, no digest exactly at
-- timestamp 0, and digests of 32 bytes.
pub record IsVersion (v : Vector) : Type 0 where
  pub count : IsClientCount (clients_of v)
  pub paired : length v.digests ≡ clients_of v
  pub below : (k : ℕ) → IsClient (clients_of v) k → timestamp_at v k < 2 ^ 40
  pub absent : (k : ℕ) → IsClient (clients_of v) k → IsNone (digest_at v k) ↔ (timestamp_at v k ≡ 0)
  pub sized : (k : ℕ) → IsClient (clients_of v) k → IfSome (digest_at v k) IsDigest

-- The order of versions: no timestamp is greater, and where two are equal, so are the digests.
pub record IsAtMost (v w : Vector) : Type 0 where
  pub timestamps : (k : ℕ) → IsClient (clients_of v) k → timestamp_at v k ≤ timestamp_at w k
  pub digests : (k : ℕ) → IsClient (clients_of v) k → timestamp_at v k ≡ timestamp_at w k → digest_at v k ≡ digest_at w k

-- The four answers of comparing.
abbrev pub IsOrder : Compared → Vector → Vector → Type 0
IsOrder Less v w = IsAtMost v w × ¬ (IsAtMost w v)
IsOrder Equal v w = IsAtMost v w × IsAtMost w v
IsOrder Greater v w = ¬ (IsAtMost v w) × IsAtMost w v
IsOrder Apart v w = ¬ (IsAtMost v w) × ¬ (IsAtMost w v)

-- The same order as tests, for definitions that compute.
abbrev pub is_same_digest : Option (List ℕ) → Option (List ℕ) → Bool
is_same_digest None None = true
is_same_digest None (Some b) = false
is_same_digest (Some a) None = false
is_same_digest (Some a) (Some b) = bytes_eq a b

abbrev pub is_entry_at_most : Vector → Vector → ℕ → Bool
is_entry_at_most v w k = nat_lt (timestamp_at v k) (timestamp_at w k) || ((timestamp_at v k == timestamp_at w k) && is_same_digest (digest_at v k) (digest_at w k))

abbrev pub are_entries_at_most : Vector → Vector → ℕ → Bool
are_entries_at_most v w zero = true
are_entries_at_most v w (suc k) = are_entries_at_most v w k && is_entry_at_most v w (suc k)

unfoldable pub is_at_most : Vector → Vector → Bool
is_at_most v w = are_entries_at_most v w (clients_of v)

abbrev pub compared_by : Bool → Bool → Compared
compared_by v_at_most_w w_at_most_v = cond v_at_most_w (cond w_at_most_v Equal Less) (cond w_at_most_v Greater Apart)

abbrev pub compared : Vector → Vector → Compared
compared v w = compared_by (is_at_most v w) (is_at_most w v)

-- Whether one of two versions is at most the other, which is to say that they aren't Apart.
abbrev pub is_comparable : Vector → Vector → Bool
is_comparable v w = is_at_most v w || is_at_most w v

-- Whether each of the first k timestamps is 0.
abbrev pub are_timestamps_zero : Vector → ℕ → Bool
are_timestamps_zero v zero = true
are_timestamps_zero v (suc k) = are_timestamps_zero v k && (timestamp_at v (suc k) == 0)

unfoldable pub is_initial : Vector → Bool
is_initial v = are_timestamps_zero v (clients_of v)
