-- How many arrivals each client has where one more came, and how many there are over all clients.
use Rattle.std.proofs.Common.{◌≡◌, ℕ, ◌+◌, ◌*◌, ◌<◌, ◌≤◌, ◌==◌, zero, suc, List, [], ◌∷◌, ◌++◌, length, refl, inl, inr, arith}
use Rattle.std.proofs.lemmas.Bool.{cond-true, cond-false, eq-eqb, ne_eqb, cases_eq}
use Rattle.std.specs.List.{AllByRecursion}
use Rattle.faust_types.specs.Clients.{IsClient}
use Rattle.faust_types.specs.declared.arrival.Arrival.{Arrival}
use Rattle.faust_host.specs.Arriving.{arrivals_of}

-- an arrival of the client counts, another doesn't
pub arrivals_of-own : (i : ℕ) (a : Arrival) (rest : List Arrival) → a.client ≡ i → arrivals_of i (a ∷ rest) ≡ suc (arrivals_of i rest)
arrivals_of-own i a rest e = let one = cond-true {A = ℕ} (a.client == i) 1 0 (eq-eqb _ _ e) in omega (arith, one)

pub arrivals_of-other : (i : ℕ) (a : Arrival) (rest : List Arrival) → (a.client ≡ i → ⊥) → arrivals_of i (a ∷ rest) ≡ arrivals_of i rest
arrivals_of-other i a rest ne = let none = cond-false {A = ℕ} (a.client == i) 1 0 (ne_eqb _ _ ne) in omega (arith, none)

-- an arrival put at the end
pub arrivals_of-push_own : (i : ℕ) (xs : List Arrival) (a : Arrival) → a.client ≡ i
    → arrivals_of i (xs ++ a ∷ []) ≡ suc (arrivals_of i xs)
arrivals_of-push_own i [] a e = arrivals_of-own i a [] e
arrivals_of-push_own i (x ∷ xs) a e = let rest = arrivals_of-push_own i xs a e in omega (arith, rest)

pub arrivals_of-push_other : (i : ℕ) (xs : List Arrival) (a : Arrival) → (a.client ≡ i → ⊥)
    → arrivals_of i (xs ++ a ∷ []) ≡ arrivals_of i xs
arrivals_of-push_other i [] a ne = arrivals_of-other i a [] ne
arrivals_of-push_other i (x ∷ xs) a ne = let rest = arrivals_of-push_other i xs a ne in omega (arith, rest)

-- the arrivals of the clients from 1 to n
abbrev total : ℕ → List Arrival → ℕ
total zero xs = 0
total (suc k) xs = total k xs + arrivals_of (suc k) xs

total-none : (n : ℕ) → total n [] ≡ 0
total-none zero = refl
total-none (suc k) = let rest = total-none k in omega (arith, rest)

total-above : (n : ℕ) (a : Arrival) (xs : List Arrival) → n < a.client → total n (a ∷ xs) ≡ total n xs
total-above zero a xs above = refl
total-above (suc k) a xs above =
    let rest = total-above k a xs (omega (arith, above)) in
    let here = arrivals_of-other (suc k) a xs (λ e. absurd (omega (arith, above, e))) in
    omega (arith, rest, here)

total-within : (n : ℕ) (a : Arrival) (xs : List Arrival) → 1 ≤ a.client → a.client ≤ n → total n (a ∷ xs) ≡ suc (total n xs)
total-within zero a xs from_one to_n = absurd (omega (arith, from_one, to_n))
total-within (suc k) a xs from_one to_n = elim (cases_eq a.client (suc k)) [
  | inl e ↦
      let rest = total-above k a xs (omega (arith, e)) in
      let here = arrivals_of-own (suc k) a xs e in
      omega (arith, rest, here)
  | inr ne ↦
      let rest = total-within k a xs from_one (omega (arith, to_n, ne)) in
      let here = arrivals_of-other (suc k) a xs ne in
      omega (arith, rest, here)
]

length-total : (n : ℕ) (xs : List Arrival) → AllByRecursion (λ (a : Arrival). IsClient n a.client) xs → total n xs ≡ length xs
length-total n [] each = total-none n
length-total n (a ∷ xs) each =
    let first = each.0 in
    let rest = length-total n xs each.1 in
    let here = total-within n a xs first.from_one first.to_n in
    omega (arith, rest, here)

total-bound : (n most k : ℕ) (xs : List Arrival) → k ≤ n → ((i : ℕ) → IsClient n i → arrivals_of i xs ≤ most) → total k xs ≤ k * most
total-bound n most zero xs below few = omega arith
total-bound n most (suc k) xs below few =
    let rest = total-bound n most k xs (omega (arith, below)) few in
    let here = few (suc k) (record { from_one = omega arith; to_n = below }) in
    omega (arith, rest, here)

-- few of each client are few in all
pub length-bound : (n most : ℕ) (xs : List Arrival) → AllByRecursion (λ (a : Arrival). IsClient n a.client) xs
    → ((i : ℕ) → IsClient n i → arrivals_of i xs ≤ most) → length xs ≤ n * most
length-bound n most xs each few =
    let all = length-total n xs each in
    let bound = total-bound n most n xs (omega arith) few in
    omega (arith, all, bound)
