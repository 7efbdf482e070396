-- How often numbers stand in lists.
use Rattle.std.proofs.Common.{◌≡◌, ℕ, zero, suc, ◌+◌, ◌<◌, ◌≤◌, ◌≢◌, cond, eqb, List, [], ◌∷◌, ◌++◌, length, get_or}
use Rattle.std.proofs.Common.{All, AllPairs, Contains, sym, refl, ap, ◌∙◌, arith, eq-eqb, ne_eqb}
use Rattle.std.proofs.lemmas.Bool.{lt-ltb, le-ltb}
use mathlib.Core.Logic.{dite}
use native.Mathlib.Decide.{dec_le, ℕ_discrete}
use Rattle.faust_ticket.specs.Numbers.{times, once_below, HoldsEachBelow}

-- 1 where x is y, and else 0
abbrev pub hit : ℕ → ℕ → ℕ
hit x y = cond (eqb x y) 1 0

pub once_below-yes : (m x : ℕ) → x < m → once_below m x ≡ 1
once_below-yes m x h = ap (λ b. cond b 1 0) (lt-ltb x m h)

pub once_below-no : (m x : ℕ) → m ≤ x → once_below m x ≡ 0
once_below-no m x h = ap (λ b. cond b 1 0) (le-ltb x m h)

pub is_below : (m x : ℕ) → 1 ≤ once_below m x → x < m
is_below m x one = dite (dec_le m x) (λ no. let z = once_below-no m x no in absurd (omega arith)) (λ yes. omega arith)

once_below-least : (m x : ℕ) → once_below m x ≤ 1
once_below-least m x = dite (dec_le m x)
    (λ no. let z = once_below-no m x no in omega arith)
    (λ yes. let z = once_below-yes m x (omega arith) in omega arith)

same : (x y : ℕ) → x ≡ y → hit x y ≡ 1
same x y e = ap (λ b. cond b 1 0) (eq-eqb x y e)

other : (x y : ℕ) → x ≢ y → hit x y ≡ 0
other x y ne = ap (λ b. cond b 1 0) (ne_eqb x y ne)

-- one more number, m, is below m + 1
pub once_below-add : (m x : ℕ) → once_below (m + 1) x ≡ once_below m x + hit x m
once_below-add m x = dite (ℕ_discrete x m)
    (λ e. let a = same x m e in let b = once_below-yes (m + 1) x (omega arith) in let c = once_below-no m x (omega arith) in omega arith)
    (λ ne. let a = other x m ne in dite (dec_le m x)
    (λ le. let b = once_below-no (m + 1) x (omega arith) in let c = once_below-no m x le in omega arith)
    (λ lt. let b = once_below-yes (m + 1) x (omega arith) in let c = once_below-yes m x (omega arith) in omega arith))

pub times-append : (x : ℕ) (xs ys : List ℕ) → times x (xs ++ ys) ≡ times x xs + times x ys
times-append x [] ys = omega arith
times-append x (z ∷ zs) ys = let r = times-append x zs ys in omega arith

pub times-push : (x : ℕ) (xs : List ℕ) (y : ℕ) → times x (xs ++ y ∷ []) ≡ times x xs + hit x y
times-push x xs y = times-append x xs (y ∷ []) ∙ omega arith

-- what stands at a place stands in the list
stands : (xs : List ℕ) (k d : ℕ) → k < length xs → 1 ≤ times (get_or xs k d) xs
stands [] k d h = absurd (omega arith)
stands (x ∷ xs) zero d h = let a = same x x refl in omega arith
stands (x ∷ xs) (suc k) d h = let r = stands xs k d (omega arith) in omega arith

pub all_below : (m : ℕ) (xs : List ℕ) → ((x : ℕ) → times x xs ≤ once_below m x) → All (λ x. x < m) xs
all_below m xs h k d lt = let x : ℕ = get_or xs k d in let a = stands xs k d lt in let b = h x in is_below m x (omega arith)

-- how many elements of a list are below m
smaller : ℕ → List ℕ → ℕ
smaller m [] = 0
smaller m (x ∷ xs) = once_below m x + smaller m xs

swapped : (x y : ℕ) → hit x y ≡ hit y x
swapped x y = dite (ℕ_discrete x y) (λ e. same x y e ∙ sym (same y x (sym e))) (λ ne. other x y ne ∙ sym (other y x (λ e. ne (sym e))))

smaller-none : (xs : List ℕ) → smaller 0 xs ≡ 0
unfolding smaller
smaller-none [] = refl
smaller-none (x ∷ xs) = let a = once_below-no 0 x (omega arith) in let r = smaller-none xs in omega arith

smaller-add : (m : ℕ) (xs : List ℕ) → smaller (m + 1) xs ≡ smaller m xs + times m xs
unfolding smaller
smaller-add m [] = refl
smaller-add m (x ∷ xs) = let a = once_below-add m x in let b = swapped x m in let r = smaller-add m xs in omega arith

smaller-each : (m : ℕ) (xs : List ℕ) → HoldsEachBelow m xs → (k : ℕ) → k ≤ m → smaller k xs ≡ k
smaller-each m xs h zero le = smaller-none xs
smaller-each m xs h (suc k) le =
    let r = smaller-each m xs h k (omega arith) in
    let a = smaller-add k xs in
    let b = h k in
    let c = once_below-yes m k (omega arith) in
    ap (λ n. smaller n xs) (let e : suc k ≡ k + 1 = omega arith in e) ∙ omega arith

smaller-all : (m : ℕ) (xs : List ℕ) → ((x : ℕ) → 1 ≤ times x xs → x < m) → smaller m xs ≡ length xs
unfolding smaller
smaller-all m [] h = refl
smaller-all m (x ∷ xs) h =
    let a = same x x refl in
    let b = once_below-yes m x (h x (omega arith)) in
    let r = smaller-all m xs (λ y one. h y (omega arith)) in
    omega arith

-- a list that holds each number below m once has m elements
pub count_is : (m : ℕ) (xs : List ℕ) → HoldsEachBelow m xs → m ≡ length xs
count_is m xs h =
    let a = smaller-each m xs h m (omega arith) in
    let b = smaller-all m xs (λ x one. let e = h x in is_below m x (omega arith)) in
    omega arith

-- a list that holds each number below m once, in other words: each is found, none stands at two places
found_at : (x : ℕ) (xs : List ℕ) → 1 ≤ times x xs → Contains xs x
found_at x [] h = absurd (omega arith)
found_at x (y ∷ ys) h = dite (ℕ_discrete y x)
    (λ e. (0, omega arith, e))
    (λ ne.
    let a = other x y (λ e. ne (sym e)) in
    let r = found_at x ys (omega arith) in
    let within = r.1 in
    (suc r.0, omega arith, r.2))

pub is_found : (m x : ℕ) (numbers : List ℕ) → HoldsEachBelow m numbers → x < m → Contains numbers x
is_found m x numbers h lt = let a = h x in let b = once_below-yes m x lt in found_at x numbers (omega arith)

twice : (xs : List ℕ) (i j d : ℕ) → i < j → j < length xs → get_or xs i d ≡ get_or xs j d → 2 ≤ times (get_or xs i d) xs
twice [] i j d lt within e = absurd (omega arith)
twice (x ∷ xs) i zero d lt within e = absurd (omega arith)
twice (x ∷ xs) zero (suc j) d lt within e =
    let a = same x x refl in
    let b = stands xs j d (omega arith) in
    let c : times (get_or xs j d) xs ≡ times x xs = ap (λ y. times y xs) (sym e) in
    omega arith
twice (x ∷ xs) (suc i) (suc j) d lt within e = let r = twice xs i j d (omega arith) (omega arith) e in omega arith

pub are_apart : (m : ℕ) (numbers : List ℕ) → HoldsEachBelow m numbers → AllPairs (λ x y. x ≢ y) numbers
are_apart m numbers h i j d lt within e =
    let x : ℕ = get_or numbers i d in
    let a = twice numbers i j d lt within e in
    let b = h x in
    let c = once_below-least m x in
    absurd (omega arith)

pub are_below : (m : ℕ) (numbers : List ℕ) → HoldsEachBelow m numbers → All (λ x. x < m) numbers
are_below m numbers h = all_below m numbers (λ x. let a = h x in omega arith)
