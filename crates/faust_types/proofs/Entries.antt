-- A version stays in range when the entry of a client is set.
use Rattle.std.proofs.Common.{◌≡◌, ◌↔◌, ℕ, false, ◌-◌, ◌^◌, ◌<◌, ◌≤◌, Option, Some, None, List, length, IfSome, IsNone, refl, sym, subst, ◌∙◌, inl, inr, arith, get_or-set_same, get_or-set_other, length-set}
use Rattle.std.proofs.lemmas.Bool.{cases_eq, true≢false, false_from_ne_true}
use Rattle.std.proofs.lemmas.Option.{none-some}
use Rattle.std.proofs.lemmas.List.{get_or-replicate, length-replicate}
use Rattle.faust_types.specs.Clients.{IsClient, IsClientCount}
use Rattle.faust_types.specs.Versions.{Vector, clients_of, timestamp_at, digest_at, initial, is_initial, with_entry}
use Rattle.faust_types.specs.Ranges.{IsDigest, IsVersionFor}
use Rattle.faust_types.proofs.Order.{zeros-true, zero-at-initial}

pub some_not_none : (m : Option (List ℕ)) (d : List ℕ) → m ≡ Some d → IsNone m → ⊥
some_not_none None d e none = absurd (none-some d e)
some_not_none (Some x) d e none = absurd (true≢false none)

-- each digest of a version of n clients has 32 bytes
pub sized-at : (n : ℕ) (v : Vector) → IsVersionFor n v → (k : ℕ) → IsClient n k → IfSome (digest_at v k) IsDigest
sized-at n v h k c = h.kept.sized k (record { from_one = c.from_one; to_n = omega (arith, c.to_n, h.count) })

pub timestamp-with_entry : (v : Vector) (k t : ℕ) (d : List ℕ) → IsClient (clients_of v) k → timestamp_at (with_entry v k t d) k ≡ t
timestamp-with_entry v k t d c = get_or-set_same v.timestamps (k - 1) t 0 (omega (arith, c.from_one, c.to_n))

pub timestamp-with_entry_other : (v : Vector) (k t : ℕ) (d : List ℕ) (j : ℕ) → 1 ≤ k → 1 ≤ j → ¬ (j ≡ k) → timestamp_at (with_entry v k t d) j ≡ timestamp_at v j
timestamp-with_entry_other v k t d j lk lj ne = get_or-set_other v.timestamps (k - 1) (j - 1) t 0 (omega (arith, ne))

pub digest-with_entry : (v : Vector) (k t : ℕ) (d : List ℕ) → 1 ≤ k → k ≤ length v.digests → digest_at (with_entry v k t d) k ≡ Some d
digest-with_entry v k t d lk uk = get_or-set_same v.digests (k - 1) (Some d) None (omega arith)

pub digest-with_entry_other : (v : Vector) (k t : ℕ) (d : List ℕ) (j : ℕ) → 1 ≤ k → 1 ≤ j → ¬ (j ≡ k) → digest_at (with_entry v k t d) j ≡ digest_at v j
digest-with_entry_other v k t d j lk lj ne = get_or-set_other v.digests (k - 1) (j - 1) (Some d) None (omega (arith, ne))

-- an entry in range keeps a version in range
pub in_range-with_entry : (n : ℕ) (v : Vector) (k t : ℕ) (d : List ℕ) → IsVersionFor n v → IsClient n k → 1 ≤ t → t < 2 ^ 40 → IsDigest d
    → IsVersionFor n (with_entry v k t d)
in_range-with_entry n v k t d h c above below is_digest =
    let times : length (with_entry v k t d).timestamps ≡ n = length-set v.timestamps (k - 1) t ∙ h.count in
    let marks : length (with_entry v k t d).digests ≡ n = length-set v.digests (k - 1) (Some d) ∙ h.kept.paired ∙ h.count in
    let here : IsClient (clients_of v) k = record { from_one = c.from_one; to_n = omega (arith, c.to_n, h.count) } in
    let time_here : timestamp_at (with_entry v k t d) k ≡ t = timestamp-with_entry v k t d here in
    let mark_here : digest_at (with_entry v k t d) k ≡ Some d = digest-with_entry v k t d c.from_one (omega (arith, c.to_n, h.kept.paired, h.count)) in
    let old : (j : ℕ) → IsClient n j → IsClient (clients_of v) j = λ j i. record { from_one = i.from_one; to_n = omega (arith, i.to_n, h.count) } in
    let new : (j : ℕ) → IsClient (clients_of (with_entry v k t d)) j → IsClient n j = λ j i. record { from_one = i.from_one; to_n = omega (arith, i.to_n, times) } in
    record {
      count = times;
      kept = record {
        count = record {
          at_least_two = omega (arith, times, h.count, h.kept.count.at_least_two);
          at_most_32 = omega (arith, times, h.count, h.kept.count.at_most_32);
        };
        paired = marks ∙ sym times;
        below = λ j i. elim (cases_eq j k) [
          | inl same ↦ subst (λ (x : ℕ). timestamp_at (with_entry v k t d) x < 2 ^ 40) (sym same) (omega (arith, time_here, below))
          | inr other ↦ omega (arith, timestamp-with_entry_other v k t d j c.from_one i.from_one other, h.kept.below j (old j (new j i)))
        ];
        absent = λ j i. elim (cases_eq j k) [
          | inl same ↦ subst (λ (x : ℕ). IsNone (digest_at (with_entry v k t d) x) ↔ (timestamp_at (with_entry v k t d) x ≡ 0)) (sym same) (
            λ none. absurd (some_not_none (digest_at (with_entry v k t d) k) d mark_here none),
            λ zero_time. absurd (omega (arith, time_here, zero_time, above)),
          )
          | inr other ↦
              let time_same = timestamp-with_entry_other v k t d j c.from_one i.from_one other in
              let mark_same = digest-with_entry_other v k t d j c.from_one i.from_one other in
              let before = h.kept.absent j (old j (new j i)) in (
                λ none. time_same ∙ before.0 (subst (λ (m : Option (List ℕ)). IsNone m) mark_same none),
                λ zero_time. subst (λ (m : Option (List ℕ)). IsNone m) (sym mark_same) (before.1 (sym time_same ∙ zero_time)),
              )
        ];
        sized = λ j i. elim (cases_eq j k) [
          | inl same ↦ subst (λ (x : ℕ). IfSome (digest_at (with_entry v k t d) x) IsDigest) (sym same)
              (subst (λ (m : Option (List ℕ)). IfSome m IsDigest) (sym mark_here) is_digest)
          | inr other ↦ subst (λ (m : Option (List ℕ)). IfSome m IsDigest)
              (sym (digest-with_entry_other v k t d j c.from_one i.from_one other)) (h.kept.sized j (old j (new j i)))
        ];
      };
    }

-- a version with an entry set is no initial one
pub not_initial-with_entry : (v : Vector) (k t : ℕ) (d : List ℕ) → IsClient (clients_of v) k → 1 ≤ t → is_initial (with_entry v k t d) ≡ false
unfolding is_initial
not_initial-with_entry v k t d c above = false_from_ne_true _ (λ zero_all.
    let here : IsClient (clients_of (with_entry v k t d)) k = record { from_one = c.from_one; to_n = omega (arith, c.to_n, length-set v.timestamps (k - 1) t) } in
    absurd (omega (arith, above, zeros-true (with_entry v k t d) (clients_of (with_entry v k t d)) zero_all k here, timestamp-with_entry v k t d c)))

-- the initial version is in range
pub in_range-initial : (n : ℕ) → IsClientCount n → IsVersionFor n (initial n)
in_range-initial n count =
    let sized : clients_of (initial n) ≡ n = length-replicate n 0 in
    let marks : length (initial n).digests ≡ n = length-replicate n None in
    let none_at : (j : ℕ) → IsClient n j → digest_at (initial n) j ≡ None = λ j i. get_or-replicate n (j - 1) None None (omega (arith, i.from_one, i.to_n)) in
    let in_n : (j : ℕ) → IsClient (clients_of (initial n)) j → IsClient n j = λ j i. record { from_one = i.from_one; to_n = omega (arith, i.to_n, sized) } in
    record {
      count = sized;
      kept = record {
        count = record { at_least_two = omega (arith, sized, count.at_least_two); at_most_32 = omega (arith, sized, count.at_most_32) };
        paired = marks ∙ sym sized;
        below = λ j i. omega (arith, zero-at-initial n j (in_n j i));
        absent = λ j i. (λ _. zero-at-initial n j (in_n j i), λ _. subst (λ (m : Option (List ℕ)). IsNone m) (sym (none_at j (in_n j i))) refl);
        sized = λ j i. subst (λ (m : Option (List ℕ)). IfSome m IsDigest) (sym (none_at j (in_n j i))) tt;
      };
    }
