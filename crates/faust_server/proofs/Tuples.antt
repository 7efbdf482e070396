-- Lists of tuples: how many of one client they have, and how long they can be.
use Rattle.std.proofs.Common.{◌≡◌, ℕ, ◌+◌, ◌<◌, ◌≤◌, ◌==◌, zero, suc, not, if◌then◌else◌, Option, Some, None, List, [], ◌∷◌, ◌++◌, length, drop, position, nat_lt, length-append, refl, sym, ap, ◌∙◌, subst, inl, inr, arith}
use Rattle.std.proofs.lemmas.Bool.{cond-true, cond-false, eq-eqb, ne_eqb, lt-ltb, le-ltb, cases_eq}
use Rattle.std.specs.List.{AllByRecursion, position_or_len}
use Rattle.faust_types.specs.Clients.{IsClient}
use Rattle.faust_types.specs.Ranges.{IsTupleFor}
use Rattle.faust_types.specs.declared.message.Tuple.{Tuple}
use Rattle.faust_server.specs.Rows.{without, behind, behind_place}
use Rattle.faust_types.specs.Messages.{tuples_by}

-- a tuple of the client counts, another doesn't
pub tuples_by-own : (k : ℕ) (tuple : Tuple) (rest : List Tuple) → tuple.client ≡ k → tuples_by k (tuple ∷ rest) ≡ suc (tuples_by k rest)
tuples_by-own k tuple rest e = cond-true _ _ _ (eq-eqb _ _ e)

pub tuples_by-other : (k : ℕ) (tuple : Tuple) (rest : List Tuple) → (tuple.client ≡ k → ⊥) → tuples_by k (tuple ∷ rest) ≡ tuples_by k rest
tuples_by-other k tuple rest ne = cond-false _ _ _ (ne_eqb _ _ ne)

pub tuples_by-le-cons : (k : ℕ) (tuple : Tuple) (rest : List Tuple) → tuples_by k rest ≤ tuples_by k (tuple ∷ rest)
tuples_by-le-cons k tuple rest = elim (cases_eq tuple.client k) [
  | inl e ↦ omega (arith, tuples_by-own k tuple rest e)
  | inr ne ↦ omega (arith, tuples_by-other k tuple rest ne)
]

-- a tuple put at the end
pub tuples_by-push_own : (k : ℕ) (xs : List Tuple) (tuple : Tuple) → tuple.client ≡ k
    → tuples_by k (xs ++ tuple ∷ []) ≡ suc (tuples_by k xs)
tuples_by-push_own k [] tuple e = tuples_by-own k tuple [] e
tuples_by-push_own k (x ∷ xs) tuple e =
    let rest = tuples_by-push_own k xs tuple e in
    elim (cases_eq x.client k) [
      | inl q ↦ omega (arith, tuples_by-own k x xs q, tuples_by-own k x (xs ++ tuple ∷ []) q)
      | inr ne ↦ omega (arith, tuples_by-other k x xs ne, tuples_by-other k x (xs ++ tuple ∷ []) ne)
    ]

pub tuples_by-push_other : (k : ℕ) (xs : List Tuple) (tuple : Tuple) → (tuple.client ≡ k → ⊥)
    → tuples_by k (xs ++ tuple ∷ []) ≡ tuples_by k xs
tuples_by-push_other k [] tuple ne = tuples_by-other k tuple [] ne
tuples_by-push_other k (x ∷ xs) tuple ne =
    let rest = tuples_by-push_other k xs tuple ne in
    elim (cases_eq x.client k) [
      | inl q ↦ omega (arith, tuples_by-own k x xs q, tuples_by-own k x (xs ++ tuple ∷ []) q)
      | inr other ↦ omega (arith, tuples_by-other k x xs other, tuples_by-other k x (xs ++ tuple ∷ []) other)
    ]

-- what leaves the list
pub without-own : (i : ℕ) (x : Tuple) (xs : List Tuple) → x.client ≡ i → without i (x ∷ xs) ≡ without i xs
without-own i x xs e = cond-false _ _ _ (ap not (eq-eqb _ _ e))

pub without-other : (i : ℕ) (x : Tuple) (xs : List Tuple) → (x.client ≡ i → ⊥) → without i (x ∷ xs) ≡ x ∷ without i xs
without-other i x xs ne = cond-true _ _ _ (ap not (ne_eqb _ _ ne))

pub tuples_by-without-own : (i : ℕ) (xs : List Tuple) → tuples_by i (without i xs) ≡ 0
tuples_by-without-own i [] = refl
tuples_by-without-own i (x ∷ xs) =
    let rest = tuples_by-without-own i xs in
    elim (cases_eq x.client i) [
      | inl e ↦ ap (tuples_by i) (without-own i x xs e) ∙ rest
      | inr ne ↦ ap (tuples_by i) (without-other i x xs ne) ∙ tuples_by-other i x (without i xs) ne ∙ rest
    ]

pub tuples_by-without-le : (k i : ℕ) (xs : List Tuple) → tuples_by k (without i xs) ≤ tuples_by k xs
tuples_by-without-le k i [] = omega arith
tuples_by-without-le k i (x ∷ xs) =
    let rest = tuples_by-without-le k i xs in
    let more = tuples_by-le-cons k x xs in
    elim (cases_eq x.client i) [
      | inl e ↦ omega (arith, ap (tuples_by k) (without-own i x xs e))
      | inr ne ↦ elim (cases_eq x.client k) [
        | inl q ↦ omega (arith, ap (tuples_by k) (without-other i x xs ne), tuples_by-own k x (without i xs) q, tuples_by-own k x xs q)
        | inr other ↦ omega (
          arith,
          ap (tuples_by k) (without-other i x xs ne),
          tuples_by-other k x
              (without i xs) other,
          tuples_by-other k x xs other,
        )
      ]
    ]

pub tuples_by-drop-le : (k p : ℕ) (xs : List Tuple) → tuples_by k (drop p xs) ≤ tuples_by k xs
tuples_by-drop-le k zero xs = omega arith
tuples_by-drop-le k (suc p) [] = omega arith
tuples_by-drop-le k (suc p) (x ∷ xs) = omega (arith, tuples_by-drop-le k p xs, tuples_by-le-cons k x xs)

pub tuples_by-behind_place-le : (k : ℕ) (place : Option ℕ) (xs : List Tuple) → tuples_by k (behind_place place xs) ≤ tuples_by k xs
tuples_by-behind_place-le k None xs = omega arith
tuples_by-behind_place-le k (Some place) xs = tuples_by-drop-le k (place + 1) xs

pub tuples_by-behind-le : (k i : ℕ) (xs : List Tuple) → tuples_by k (behind i xs) ≤ tuples_by k xs
tuples_by-behind-le k i xs = tuples_by-behind_place-le k (position (λ (tuple : Tuple). tuple.client == i) xs) xs

-- what leaves the list, in plain words
pub without-none : (i : ℕ) (xs : List Tuple) → tuples_by i xs ≡ 0 → without i xs ≡ xs
without-none i [] none = refl
without-none i (x ∷ xs) none = elim (cases_eq x.client i) [
  | inl e ↦ absurd (omega (arith, none, tuples_by-own i x xs e))
  | inr ne ↦ without-other i x xs ne ∙ ap (λ (rest : List Tuple). x ∷ rest)
      (without-none i xs (omega (arith, none, tuples_by-other i x xs ne)))
]

first_place : (i : ℕ) (before : List Tuple) (tuple : Tuple) (rest : List Tuple) → tuples_by i before ≡ 0 → tuple.client ≡ i
    → position_or_len (λ (x : Tuple). x.client == i) (before ++ tuple ∷ rest) ≡ length before
first_place i [] tuple rest none e = cond-false _ _ _ (ap not (eq-eqb _ _ e))
first_place i (x ∷ xs) tuple rest none e = elim (cases_eq x.client i) [
  | inl q ↦ absurd (omega (arith, none, tuples_by-own i x xs q))
  | inr ne ↦
      let more = first_place i xs tuple rest (omega (arith, none, tuples_by-other i x xs ne)) e in
      let here : position_or_len (λ (x : Tuple). x.client == i) (x ∷ (xs ++ tuple ∷ rest)) ≡ 1 + position_or_len
      (λ (x : Tuple). x.client == i) (xs ++ tuple ∷ rest) = cond-true _ _ _ (ap not (ne_eqb _ _ ne)) in
      omega (arith, here, more)
]

no_place : (i : ℕ) (xs : List Tuple) → tuples_by i xs ≡ 0 → position_or_len (λ (x : Tuple). x.client == i) xs ≡ length xs
no_place i [] none = refl
no_place i (x ∷ xs) none = elim (cases_eq x.client i) [
  | inl q ↦ absurd (omega (arith, none, tuples_by-own i x xs q))
  | inr ne ↦
      let more = no_place i xs (omega (arith, none, tuples_by-other i x xs ne)) in
      let here : position_or_len (λ (x : Tuple). x.client == i) (x ∷ xs) ≡ 1 + position_or_len (λ (x : Tuple). x.client == i) xs =
      cond-true _ _ _ (ap not (ne_eqb _ _ ne)) in
      omega (arith, here, more)
]

drop_past : (before : List Tuple) (tuple : Tuple) (rest : List Tuple) → drop (length before + 1) (before ++ tuple ∷ rest) ≡ rest
drop_past [] tuple rest = refl
drop_past (x ∷ xs) tuple rest =
    let shift : length (x ∷ xs) + 1 ≡ suc (length xs + 1) = omega arith in
    ap (λ (n : ℕ). drop n (x ∷ (xs ++ tuple ∷ rest))) shift ∙ drop_past xs tuple rest

-- the first tuple of client i leaves with all before it
pub behind-first : (i : ℕ) (before : List Tuple) (tuple : Tuple) (rest : List Tuple) → tuples_by i before ≡ 0 → tuple.client ≡ i
    → behind i (before ++ tuple ∷ rest) ≡ rest
behind-first i before tuple rest none e =
    let xs = before ++ tuple ∷ rest in
    let at : position_or_len (λ (x : Tuple). x.client == i) xs ≡ length before = first_place i before tuple rest none e in
    let within : length before < length xs = omega (arith, length-append before (tuple ∷ rest)) in
    let found : position (λ (x : Tuple). x.client == i) xs ≡ Some (length before) =
    subst (λ (p : ℕ). (if nat_lt p (length xs) then Some p else None) ≡ Some (length before)) (sym at)
    (cond-true _ _ _ (lt-ltb _ _ within)) in
    ap (λ (place : Option ℕ). behind_place place xs) found ∙ drop_past before tuple rest

-- where there is none, all stay
pub behind-none : (i : ℕ) (xs : List Tuple) → tuples_by i xs ≡ 0 → behind i xs ≡ xs
behind-none i xs none =
    let at : position_or_len (λ (x : Tuple). x.client == i) xs ≡ length xs = no_place i xs none in
    let found : position (λ (x : Tuple). x.client == i) xs ≡ None =
    subst (λ (p : ℕ). (if nat_lt p (length xs) then Some p else None) ≡ None) (sym at)
    (cond-false _ _ _ (le-ltb (length xs) (length xs) (omega arith))) in
    ap (λ (place : Option ℕ). behind_place place xs) found

-- what each tuple keeps
pub All-push : {X : Type 0} (P : X → Type 0) (xs : List X) (x : X) → AllByRecursion P xs → P x → AllByRecursion P (xs ++ x ∷ [])
All-push P [] x all p = (p, tt)
All-push P (y ∷ ys) x all p = (all.0, All-push P ys x all.1 p)

pub All-without : (P : Tuple → Type 0) (i : ℕ) (xs : List Tuple) → AllByRecursion P xs → AllByRecursion P (without i xs)
All-without P i [] all = tt
All-without P i (x ∷ xs) all =
    let rest = All-without P i xs all.1 in
    elim (cases_eq x.client i) [
      | inl e ↦ subst (λ (l : List Tuple). AllByRecursion P l) (sym (without-own i x xs e)) rest
      | inr ne ↦ subst (λ (l : List Tuple). AllByRecursion P l) (sym (without-other i x xs ne)) (all.0, rest)
    ]

pub All-drop : (P : Tuple → Type 0) (p : ℕ) (xs : List Tuple) → AllByRecursion P xs → AllByRecursion P (drop p xs)
All-drop P zero xs all = all
All-drop P (suc p) [] all = tt
All-drop P (suc p) (x ∷ xs) all = All-drop P p xs all.1

pub All-behind_place : (P : Tuple → Type 0) (place : Option ℕ) (xs : List Tuple) → AllByRecursion P xs
    → AllByRecursion P (behind_place place xs)
All-behind_place P None xs all = all
All-behind_place P (Some place) xs all = All-drop P (place + 1) xs all

pub All-behind : (P : Tuple → Type 0) (i : ℕ) (xs : List Tuple) → AllByRecursion P xs → AllByRecursion P (behind i xs)
All-behind P i xs all = All-behind_place P (position (λ (tuple : Tuple). tuple.client == i) xs) xs all

-- the tuples of clients 1 to n
tuples_up_to : ℕ → List Tuple → ℕ
tuples_up_to zero xs = 0
tuples_up_to (suc n) xs = tuples_up_to n xs + tuples_by (suc n) xs

up_to-none : (n : ℕ) → tuples_up_to n [] ≡ 0
unfolding tuples_up_to
up_to-none zero = refl
up_to-none (suc n) = omega (arith, up_to-none n)

up_to-above : (n : ℕ) (x : Tuple) (xs : List Tuple) → n < x.client → tuples_up_to n (x ∷ xs) ≡ tuples_up_to n xs
unfolding tuples_up_to
up_to-above zero x xs lt = refl
up_to-above (suc n) x xs lt =
    let ne : x.client ≡ suc n → ⊥ = λ e. absurd (omega arith) in
    omega (arith, up_to-above n x xs (omega arith), tuples_by-other (suc n) x xs ne)

up_to-within : (n : ℕ) (x : Tuple) (xs : List Tuple) → IsClient n x.client → tuples_up_to n (x ∷ xs) ≡ suc (tuples_up_to n xs)
unfolding tuples_up_to
up_to-within zero x xs within = absurd (omega (arith, within.from_one, within.to_n))
up_to-within (suc n) x xs within = elim (cases_eq x.client (suc n)) [
  | inl e ↦ omega (arith, up_to-above n x xs (omega arith), tuples_by-own (suc n) x xs e)
  | inr ne ↦
      let below : IsClient n x.client = record { from_one = within.from_one; to_n = omega (arith, within.to_n, ne) } in
      omega (arith, up_to-within n x xs below, tuples_by-other (suc n) x xs ne)
]

length-up_to : (n : ℕ) (xs : List Tuple) → AllByRecursion (IsTupleFor n) xs → length xs ≡ tuples_up_to n xs
length-up_to n [] all = sym (up_to-none n)
length-up_to n (x ∷ xs) all = omega (arith, length-up_to n xs all.1, up_to-within n x xs all.0.client_in_range)

up_to-le : (n : ℕ) (xs : List Tuple) → ((k : ℕ) → IsClient n k → tuples_by k xs ≤ 1) → tuples_up_to n xs ≤ n
unfolding tuples_up_to
up_to-le zero xs each = omega arith
up_to-le (suc n) xs each =
    let rest = up_to-le n xs (λ k within. each k (record { from_one = within.from_one; to_n = omega (arith, within.to_n) })) in
    omega (arith, rest, each (suc n) (record { from_one = omega arith; to_n = omega arith }))

up_to-lt : (n i : ℕ) (xs : List Tuple) → IsClient n i → tuples_by i xs ≡ 0 → ((k : ℕ) → IsClient n k → tuples_by k xs ≤ 1)
    → tuples_up_to n xs < n
unfolding tuples_up_to
up_to-lt zero i xs within none each = absurd (omega (arith, within.from_one, within.to_n))
up_to-lt (suc n) i xs within none each =
    let below : (k : ℕ) → IsClient n k → tuples_by k xs ≤ 1 = λ k inside. each k
    (record { from_one = inside.from_one; to_n = omega (arith, inside.to_n) }) in
    let last : tuples_by (suc n) xs ≤ 1 = each (suc n) (record { from_one = omega arith; to_n = omega arith }) in
    elim (cases_eq i (suc n)) [
      | inl e ↦ let empty : tuples_by (suc n) xs ≡ 0 = subst (λ (x : ℕ). tuples_by x xs ≡ 0) e none in omega (arith, up_to-le n xs below)
      | inr ne ↦ omega (arith, up_to-lt n i xs (record { from_one = within.from_one; to_n = omega (arith, within.to_n, ne) }) none below)
    ]

-- where each of n clients has at most one tuple, and one of them none, the list has fewer than n
pub few_tuples : (n i : ℕ) (xs : List Tuple) → AllByRecursion (IsTupleFor n) xs → IsClient n i → tuples_by i xs ≡ 0
    → ((k : ℕ) → IsClient n k → tuples_by k xs ≤ 1) → length xs < n
few_tuples n i xs all within none each = omega (arith, length-up_to n xs all, up_to-lt n i xs within none each)
