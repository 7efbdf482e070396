-- One more operation keeps the ranges of a walk.
use Rattle.std.proofs.Common.{◌≡◌, ℕ, ◌+◌, ◌^◌, ◌<◌, false, sym, ◌∙◌, arith}
use Rattle.faust_types.specs.Clients.{IsClient}
use Rattle.faust_types.specs.Versions.{timestamp_at, is_initial}
use Rattle.faust_types.specs.Ranges.{IsVersionFor}
use Rattle.faust_types.proofs.Entries.{in_range-with_entry, not_initial-with_entry, timestamp-with_entry_other}
use Rattle.faust_hash.specs.Chain.{link}
use Rattle.faust_tags.proofs.Sizes.{digest-link}
use Rattle.faust_ustor.specs.declared.walk.Walk.{Walk}
use Rattle.faust_ustor.specs.Checks.{advanced}
use Rattle.faust_ustor.specs.InRange.{IsWalkFor}

-- The version after one more operation of client k is in range.
pub in_range-advanced : (n : ℕ) (walk : Walk) (k : ℕ) → IsVersionFor n walk.version → IsClient n k
    → timestamp_at walk.version k + 1 < 2 ^ 40 → IsVersionFor n (advanced walk k).version
in_range-advanced n walk k h c room =
    in_range-with_entry n walk.version k (timestamp_at walk.version k + 1) (link walk.digest k) h c (omega arith) room
    (digest-link walk.digest k)

-- It isn't initial.
pub not_initial-advanced : (n : ℕ) (walk : Walk) (k : ℕ) → IsVersionFor n walk.version → IsClient n k
    → is_initial (advanced walk k).version ≡ false
not_initial-advanced n walk k h c =
    not_initial-with_entry walk.version k (timestamp_at walk.version k + 1) (link walk.digest k)
    (record { from_one = c.from_one; to_n = omega (arith, c.to_n, h.count) }) (omega arith)

-- One more operation of another client keeps the number of own operations.
pub walk_for-advanced : (n me t : ℕ) (walk : Walk) (k : ℕ) → IsWalkFor n me t walk → IsClient n k → IsClient n me → (k ≡ me → ⊥)
    → timestamp_at walk.version k + 1 < 2 ^ 40 → IsWalkFor n me t (advanced walk k)
walk_for-advanced n me t walk k h c own other room = record {
  version_in_range = in_range-advanced n walk k h.version_in_range c room;
  own_kept = timestamp-with_entry_other walk.version k (timestamp_at walk.version k + 1) (link walk.digest k) me c.from_one
      own.from_one (λ e. other (sym e)) ∙ h.own_kept;
}
