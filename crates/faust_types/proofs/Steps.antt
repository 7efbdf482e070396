-- The initial version is the least, and one more operation makes a greater version.
use Rattle.std.proofs.Common.{◌≡◌, ℕ, ◌+◌, ◌-◌, ◌≤◌, List, None, sym, ◌∙◌, subst, inl, inr, arith, length-set}
use Rattle.std.proofs.lemmas.Bool.{cases_eq}
use Rattle.std.proofs.lemmas.List.{length-replicate, get_or-replicate}
use Rattle.faust_types.specs.Clients.{IsClient}
use Rattle.faust_types.specs.Versions.{Vector, IsVersion, IsAtMost, IsOrder, clients_of, timestamp_at, digest_at, initial, stepped}
use Rattle.faust_types.specs.declared.version.Compared.TheVariants.{Less}
use Rattle.faust_types.proofs.Order.{zero-at-initial, none-from}
use Rattle.faust_types.proofs.Entries.{timestamp-with_entry, timestamp-with_entry_other, digest-with_entry_other}

pub initial_is_least : (n : ℕ) (v : Vector) → IsVersion v → clients_of v ≡ n → IsAtMost (initial n) v
initial_is_least n v kept sized =
    let in_n : (k : ℕ) → IsClient (clients_of (initial n)) k → IsClient n k =
    λ k c. record { from_one = c.from_one; to_n = omega (arith, c.to_n, length-replicate {A = ℕ} n 0) } in
    let in_v : (k : ℕ) → IsClient (clients_of (initial n)) k → IsClient (clients_of v) k =
    λ k c. record { from_one = c.from_one; to_n = omega (arith, c.to_n, length-replicate {A = ℕ} n 0, sized) } in
    record {
      timestamps = λ k c. omega (arith, zero-at-initial n k (in_n k c));
      digests = λ k c same.
          let zero_time : timestamp_at v k ≡ 0 = sym same ∙ zero-at-initial n k (in_n k c) in
          let none : digest_at v k ≡ None = none-from (digest_at v k) ((kept.absent k (in_v k c)).1 zero_time) in
          get_or-replicate n (k - 1) None None (omega (arith, (in_n k c).from_one, (in_n k c).to_n)) ∙ sym none;
    }

-- the entry that a step sets is greater, and the others stay
pub at_most_stepped : (v : Vector) (k : ℕ) (d : List ℕ) → IsClient (clients_of v) k → IsAtMost v (stepped v k d)
at_most_stepped v k d here =
    let t = timestamp_at v k + 1 in
    let grown : timestamp_at (stepped v k d) k ≡ timestamp_at v k + 1 = timestamp-with_entry v k t d here in
    record {
      timestamps = λ j c. elim (cases_eq j k) [
        | inl same ↦ subst (λ (x : ℕ). timestamp_at v x ≤ timestamp_at (stepped v k d) x) (sym same) (omega (arith, grown))
        | inr other ↦ omega (arith, timestamp-with_entry_other v k t d j here.from_one c.from_one other)
      ];
      digests = λ j c kept. elim (cases_eq j k) [
        | inl same ↦
            let still : timestamp_at v k ≡ timestamp_at (stepped v k d) k =
            subst (λ (x : ℕ). timestamp_at v x ≡ timestamp_at (stepped v k d) x) same kept in
            absurd (omega (arith, still, grown))
        | inr other ↦ sym (digest-with_entry_other v k t d j here.from_one c.from_one other)
      ];
    }

pub step_is_above : (v : Vector) (k : ℕ) (d : List ℕ) → IsClient (clients_of v) k → IsOrder Less v (stepped v k d)
step_is_above v k d here =
    let t = timestamp_at v k + 1 in
    let grown : timestamp_at (stepped v k d) k ≡ timestamp_at v k + 1 = timestamp-with_entry v k t d here in (
      at_most_stepped v k d here,
      λ m.
          let still_here : IsClient (clients_of (stepped v k d)) k =
          record { from_one = here.from_one; to_n = omega (arith, here.to_n, length-set v.timestamps (k - 1) t) } in
          absurd (omega (arith, grown, m.timestamps k still_here)),
    )
