-- The tests on versions say what the order of versions says, and it is a partial order.
use Rattle.std.proofs.Common.{◌≡◌, ◌↔◌, ℕ, ◌+◌, ◌-◌, ◌<◌, ◌≤◌, zero, suc, true, false, Bool, ◌==◌, ◌&&◌, ◌||◌, nat_lt, Option, Some, None, List, [], ◌∷◌, length, get_or, replicate, IsNone, refl, sym, ap, ◌∙◌, subst, inl, inr, arith}
use Rattle.std.proofs.lemmas.Bool.{true≢false, and_parts, and_from, or_cases, or_left, or_right, ltb-true, lt-ltb, eqb-true, eq-eqb, cases_lt, cases_eq}
use Rattle.std.proofs.lemmas.List.{ext_get_or, get_or-replicate}
use Rattle.std.proofs.lemmas.Slice.Eq.{bytes_eq-Decides}
use Rattle.faust_types.specs.Clients.{IsClient}
use Rattle.faust_types.specs.Versions.{Vector, IsVersion, IsAtMost, IsOrder, clients_of, timestamp_at, digest_at, initial, is_same_digest, is_entry_at_most, are_entries_at_most, is_at_most, are_timestamps_zero, is_initial, is_comparable, compared, compared_by}
use Rattle.faust_types.specs.declared.version.Compared.TheVariants.{Apart}

pub same_digest-true : (a b : Option (List ℕ)) → is_same_digest a b ≡ true → a ≡ b
same_digest-true None None h = refl
same_digest-true None (Some b) h = cc
same_digest-true (Some a) None h = cc
same_digest-true (Some a) (Some b) h = ap (λ x. Some x) ((bytes_eq-Decides a b).0 h)

pub same_digest-refl : (a : Option (List ℕ)) → is_same_digest a a ≡ true
same_digest-refl None = refl
same_digest-refl (Some a) = (bytes_eq-Decides a a).1 refl

pub entry-true : (a b : ℕ) (d e : Option (List ℕ)) → (nat_lt a b || ((a == b) && is_same_digest d e)) ≡ true → (a ≤ b) × (a ≡ b → d ≡ e)
entry-true a b d e h = elim (or_cases _ _ h) [
  | inl lt ↦ let less : a < b = ltb-true a b lt in (omega arith, λ q. absurd (omega arith))
  | inr both ↦ let parts = and_parts _ _ both in let same : a ≡ b = eqb-true a b parts.0 in (omega arith, λ q. same_digest-true d e parts.1)
]

pub entry-from : (a b : ℕ) (d e : Option (List ℕ)) → a ≤ b → (a ≡ b → d ≡ e) → (nat_lt a b || ((a == b) && is_same_digest d e)) ≡ true
entry-from a b d e le same = elim (cases_lt a b) [
  | inl lt ↦ or_left _ _ (lt-ltb a b lt)
  | inr ge ↦ let q : a ≡ b = omega arith in
      or_right _ _ (and_from _ _ (eq-eqb a b q) (subst (λ (x : Option (List ℕ)). is_same_digest d x ≡ true) (same q) (same_digest-refl d)))
]

pub entries-true : (v w : Vector) (n : ℕ) → are_entries_at_most v w n ≡ true → (k : ℕ) → IsClient n k → is_entry_at_most v w k ≡ true
entries-true v w zero h k c = absurd (omega (arith, c.from_one, c.to_n))
entries-true v w (suc n) h k c =
    let parts = and_parts _ _ h in
    elim (cases_eq k (suc n)) [
      | inl q ↦ subst (λ (x : ℕ). is_entry_at_most v w x ≡ true) (sym q) parts.1
      | inr ne ↦ entries-true v w n parts.0 k (record { from_one = c.from_one; to_n = omega (arith, c.to_n, ne) })
    ]

pub entries-from : (v w : Vector) (n : ℕ) → ((k : ℕ) → IsClient n k → is_entry_at_most v w k ≡ true) → are_entries_at_most v w n ≡ true
entries-from v w zero each = refl
entries-from v w (suc n) each = and_from _ _
    (entries-from v w n (λ k c. each k (record { from_one = c.from_one; to_n = omega (arith, c.to_n) })))
    (each (suc n) (record { from_one = omega arith; to_n = omega arith }))

not-true : (b : Bool) → ¬ (b ≡ true) → b ≡ false
not-true true h = absurd (h refl)
not-true false h = refl

-- where one place fails, the whole does
pub fails-at : (v w : Vector) (n k : ℕ) → IsClient n k → is_entry_at_most v w k ≡ false → are_entries_at_most v w n ≡ false
fails-at v w n k c h = not-true _ (λ all. true≢false (sym (entries-true v w n all k c) ∙ h))

-- the test is the order
pub is_at_most-means : (v w : Vector) → (is_at_most v w ≡ true) ↔ IsAtMost v w
unfolding is_at_most
is_at_most-means v w = (
  λ h. record {
    timestamps = λ k c. (entry-true (timestamp_at v k) (timestamp_at w k) (digest_at v k) (digest_at w k) (entries-true v w _ h k c)).0;
    digests = λ k c. (entry-true (timestamp_at v k) (timestamp_at w k) (digest_at v k) (digest_at w k) (entries-true v w _ h k c)).1;
  },
  λ m. entries-from v w _ (λ k c. entry-from (timestamp_at v k) (timestamp_at w k) (digest_at v k) (digest_at w k) (m.timestamps k c) (m.digests k c)),
)

-- the same by a name that attributes can cite
pub is_at_most_tells : (v w : Vector) → (is_at_most v w ≡ true) ↔ IsAtMost v w
is_at_most_tells v w = is_at_most-means v w

pub at_most_self : (v : Vector) → IsAtMost v v
at_most_self v = record { timestamps = λ k c. omega arith; digests = λ k c same. refl }

-- at most, along a third version
pub at_most_along : (u v w : Vector) → clients_of u ≡ clients_of v → IsAtMost u v → IsAtMost v w → IsAtMost u w
at_most_along u v w sized h i =
    let in_v : (k : ℕ) → IsClient (clients_of u) k → IsClient (clients_of v) k =
    λ k c. record { from_one = c.from_one; to_n = omega (arith, c.to_n, sized) } in
    record {
      timestamps = λ k c. omega (arith, h.timestamps k c, i.timestamps k (in_v k c));
      digests = λ k c same.
          let first : timestamp_at u k ≡ timestamp_at v k = omega (arith, h.timestamps k c, i.timestamps k (in_v k c), same) in
          let second : timestamp_at v k ≡ timestamp_at w k = omega (arith, first, same) in
          h.digests k c first ∙ i.digests k (in_v k c) second;
    }

-- at most both ways: the same version
pub at_most_both : (v w : Vector) → IsVersion v → IsVersion w → clients_of v ≡ clients_of w
    → IsAtMost v w → IsAtMost w v → v ≡ w
at_most_both v w kept_v kept_w sized h i =
    let client : (j : ℕ) → j < clients_of v → IsClient (clients_of v) (j + 1) = λ j lt. record { from_one = omega arith; to_n = omega (arith, lt) } in
    let client_w : (j : ℕ) → j < clients_of v → IsClient (clients_of w) (j + 1) = λ j lt. record { from_one = omega arith; to_n = omega (arith, lt, sized) } in
    let back : (j : ℕ) → (j + 1) - 1 ≡ j = λ j. omega arith in
    let same_time : (j : ℕ) → j < clients_of v → timestamp_at v (j + 1) ≡ timestamp_at w (j + 1) =
    λ j lt. omega (arith, h.timestamps (j + 1) (client j lt), i.timestamps (j + 1) (client_w j lt)) in
    let times : v.timestamps ≡ w.timestamps = ext_get_or 0 v.timestamps w.timestamps sized
    (λ j lt. subst (λ (x : ℕ). get_or v.timestamps x 0 ≡ get_or w.timestamps x 0) (back j) (same_time j lt)) in
    let marks : v.digests ≡ w.digests = ext_get_or None v.digests w.digests (kept_v.paired ∙ sized ∙ sym kept_w.paired)
    (λ j lt.
    let within : j < clients_of v = omega (arith, lt, kept_v.paired) in
    subst (λ (x : ℕ). get_or v.digests x None ≡ get_or w.digests x None) (back j)
    (h.digests (j + 1) (client j within) (same_time j within))) in
    ap (λ (ts : List ℕ). let x : Vector = record { timestamps = ts; digests = v.digests } in x) times
    ∙ ap (λ (ds : List (Option (List ℕ))). let x : Vector = record { timestamps = w.timestamps; digests = ds } in x) marks

-- the answer of comparing is the one that is right
order_by : (v w : Vector) (a b : Bool) → is_at_most v w ≡ a → is_at_most w v ≡ b → IsOrder (compared_by a b) v w
order_by v w true true h i = ((is_at_most-means v w).0 h, (is_at_most-means w v).0 i)
order_by v w true false h i = ((is_at_most-means v w).0 h, λ m. true≢false (sym ((is_at_most-means w v).1 m) ∙ i))
order_by v w false true h i = (λ m. true≢false (sym ((is_at_most-means v w).1 m) ∙ h), (is_at_most-means w v).0 i)
order_by v w false false h i = (
  λ m. true≢false (sym ((is_at_most-means v w).1 m) ∙ h),
  λ m. true≢false (sym ((is_at_most-means w v).1 m) ∙ i),
)

pub compared_means : (v w : Vector) → IsOrder (compared v w) v w
compared_means v w = order_by v w (is_at_most v w) (is_at_most w v) refl refl

apart_by : (a b : Bool) → (compared_by a b ≡ Apart) ↔ ((a || b) ≡ false)
apart_by true true = (λ h. absurd (cc), λ h. absurd (true≢false h))
apart_by true false = (λ h. absurd (cc), λ h. absurd (true≢false h))
apart_by false true = (λ h. absurd (cc), λ h. absurd (true≢false h))
apart_by false false = (λ h. refl, λ h. refl)

-- Apart and incomparable are the same
pub apart_means : (v w : Vector) → (compared v w ≡ Apart) ↔ (is_comparable v w ≡ false)
apart_means v w = apart_by (is_at_most v w) (is_at_most w v)

or_turned : (a b : Bool) → (a || b) ≡ (b || a)
or_turned true true = refl
or_turned true false = refl
or_turned false true = refl
or_turned false false = refl

-- whichever version stands first
pub comparable_turned : (v w : Vector) → is_comparable v w ≡ is_comparable w v
comparable_turned v w = or_turned (is_at_most v w) (is_at_most w v)

pub apart_turned : (v w : Vector) → compared v w ≡ Apart → compared w v ≡ Apart
apart_turned v w h = (apart_means w v).1 (comparable_turned w v ∙ (apart_means v w).0 h)

pub comparable_self : (v : Vector) → is_comparable v v ≡ true
comparable_self v = or_left _ _ ((is_at_most-means v v).1 (at_most_self v))

-- what is at most another version is comparable with it
pub comparable_below : (v w : Vector) → IsAtMost v w → is_comparable v w ≡ true
comparable_below v w m = or_left _ _ ((is_at_most-means v w).1 m)

pub zeros-true : (v : Vector) (n : ℕ) → are_timestamps_zero v n ≡ true → (k : ℕ) → IsClient n k → timestamp_at v k ≡ 0
zeros-true v zero h k c = absurd (omega (arith, c.from_one, c.to_n))
zeros-true v (suc n) h k c =
    let parts = and_parts _ _ h in
    elim (cases_eq k (suc n)) [
      | inl q ↦ subst (λ (x : ℕ). timestamp_at v x ≡ 0) (sym q) (eqb-true _ _ parts.1)
      | inr ne ↦ zeros-true v n parts.0 k (record { from_one = c.from_one; to_n = omega (arith, c.to_n, ne) })
    ]

pub zeros-from : (v : Vector) (n : ℕ) → ((k : ℕ) → IsClient n k → timestamp_at v k ≡ 0) → are_timestamps_zero v n ≡ true
zeros-from v zero each = refl
zeros-from v (suc n) each = and_from _ _
    (zeros-from v n (λ k c. each k (record { from_one = c.from_one; to_n = omega (arith, c.to_n) })))
    (eq-eqb _ _ (each (suc n) (record { from_one = omega arith; to_n = omega arith })))

-- a list of one item throughout
pub same_replicate : {X : Type 0} (x : X) (xs : List X) → ((i : ℕ) → i < length xs → get_or xs i x ≡ x) → xs ≡ replicate (length xs) x
same_replicate x [] each = refl
same_replicate x (y ∷ ys) each =
    let first : y ≡ x = each 0 (omega arith) in
    let rest : ys ≡ replicate (length ys) x = same_replicate x ys (λ i lt. each (suc i) (omega (arith, lt))) in
    ap (λ z. z ∷ ys) first ∙ ap (λ zs. x ∷ zs) rest

pub none-from : (d : Option (List ℕ)) → IsNone d → d ≡ None
none-from None h = refl
none-from (Some d) h = absurd (true≢false h)

pub zero-at-initial : (n k : ℕ) → IsClient n k → timestamp_at (initial n) k ≡ 0
zero-at-initial n k c = get_or-replicate n (k - 1) 0 0 (omega (arith, c.from_one, c.to_n))

-- the test for the initial version
pub is_initial-means : (v : Vector) → IsVersion v → (is_initial v ≡ true) ↔ (v ≡ initial (clients_of v))
unfolding is_initial
is_initial-means v kept = (
  λ h.
      let zero_at : (i : ℕ) → i < length v.timestamps → get_or v.timestamps i 0 ≡ 0 =
      λ i lt. let back : (i + 1) - 1 ≡ i = omega arith in subst (λ (x : ℕ). get_or v.timestamps x 0 ≡ 0) back (zeros-true v (clients_of v) h (i + 1) (record { from_one = omega arith; to_n = omega (arith, lt) })) in
      let none_at : (i : ℕ) → i < length v.digests → get_or v.digests i None ≡ None =
      λ i lt.
      let c : IsClient (clients_of v) (i + 1) = record { from_one = omega arith; to_n = omega (arith, lt, kept.paired) } in
      let none : digest_at v (i + 1) ≡ None = none-from (digest_at v (i + 1)) ((kept.absent (i + 1) c).1 (zeros-true v (clients_of v) h (i + 1) c)) in
      let back : (i + 1) - 1 ≡ i = omega arith in
      subst (λ (x : ℕ). get_or v.digests x None ≡ None) back none in
      let times : v.timestamps ≡ replicate (clients_of v) 0 = same_replicate 0 v.timestamps zero_at in
      let marks : v.digests ≡ replicate (clients_of v) None = same_replicate None v.digests none_at ∙ ap (λ m. replicate m None) kept.paired in
      ap (λ (ts : List ℕ). let w : Vector = record { timestamps = ts; digests = v.digests } in w) times
      ∙ ap (λ (ds : List (Option (List ℕ))). let w : Vector = record { timestamps = replicate (clients_of v) 0; digests = ds } in w) marks,
  λ e. zeros-from v _ (λ k c. ap (λ (w : Vector). timestamp_at w k) e ∙ zero-at-initial (clients_of v) k c),
)
