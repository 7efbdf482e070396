-- The names of tuples, counted on one by one.
use Rattle.std.proofs.Common.{◌≡◌, ◌==◌, ℕ, suc, ◌+◌, ◌<◌, ◌≤◌, cond, Bool, true, false, List, [], ◌∷◌, ◌++◌, length, get_or, take, set, inl, inr, replicate, ◌^◌, refl, sym, ap, ◌∙◌, subst, get_or-set_other, get_or-set_same, length-set, arith}
use Rattle.std.proofs.lemmas.List.{get_or-replicate, length-take-le, take_more}
use Rattle.std.proofs.lemmas.Bool.{cases_eq, eq-eqb, ne_eqb}
use Rattle.faust_types.specs.Versions.{Vector, timestamp_at}
use Rattle.faust_types.specs.declared.operation.OpName.{OpName}
use Rattle.faust_types.specs.declared.message.Tuple.{Tuple}
use Rattle.faust_lists.specs.Lists.{count}
use Rattle.faust_names.specs.Histories.{named}
use Rattle.faust_runs.specs.ForkViews.{name_on, names_on}

-- the clients of tuples behind others, the last one first
abbrev pub passed : List ℕ → List Tuple → List ℕ
passed before [] = before
passed before (tuple ∷ rest) = passed (tuple.client ∷ before) rest

pub passed-push : (before : List ℕ) (xs : List Tuple) (x : Tuple) → passed before (xs ++ x ∷ []) ≡ x.client ∷ passed before xs
passed-push before [] x = refl
passed-push before (y ∷ xs) x = passed-push (y.client ∷ before) xs x

pub names-push : (v : Vector) (before : List ℕ) (xs : List Tuple) (x : Tuple)
    → names_on v before (xs ++ x ∷ []) ≡ names_on v before xs ++ name_on v (passed before xs) x.client ∷ []
names-push v before [] x = refl
names-push v before (y ∷ xs) x =
    ap (λ (l : List OpName). name_on v before y.client ∷ l) (names-push v (y.client ∷ before) xs x)

pub length-names : (v : Vector) (before : List ℕ) (xs : List Tuple) → length (names_on v before xs) ≡ length xs
length-names v before [] = refl
length-names v before (x ∷ xs) = ap suc (length-names v (x.client ∷ before) xs)

length-passed : (before : List ℕ) (xs : List Tuple) → length (passed before xs) ≡ length before + length xs
length-passed before [] = omega arith
length-passed before (x ∷ xs) =
    let rest : length (passed (x.client ∷ before) xs) ≡ length (x.client ∷ before) + length xs = length-passed (x.client ∷ before) xs in
    omega arith

count-choice : (b : Bool) (m n : ℕ) → m ≤ n → cond b (suc m) m ≤ suc n
count-choice true m n h = omega arith
count-choice false m n h = omega arith

count-least : (k : ℕ) (w : List ℕ) → count k w ≤ length w
count-least k [] = omega arith
count-least k (x ∷ w) = count-choice (x == k) (count k w) (length w) (count-least k w)

-- so many operations of each client came
pub record AreCounted (counts before : List ℕ) : Type 0 where
  pub sized : length counts ≡ 33
  pub each : (k : ℕ) → k < 33 → get_or counts k 0 ≡ count k before

pub none-counted : AreCounted (replicate 33 0) []
none-counted = record { sized = refl; each = λ k h. get_or-replicate 33 k 0 0 h }

pub one-counted : (counts before : List ℕ) (k : ℕ) → k < 33 → AreCounted counts before
    → AreCounted (set counts k (suc (get_or counts k 0))) (k ∷ before)
one-counted counts before k h are = record {
  sized = length-set counts k (suc (get_or counts k 0)) ∙ are.sized;
  each = λ j below. elim (cases_eq k j) [
    | inl same ↦
        subst (λ (i : ℕ). get_or (set counts k (suc (get_or counts k 0))) i 0 ≡ count i (k ∷ before)) same
        (get_or-set_same counts k (suc (get_or counts k 0)) 0 (subst (λ (n : ℕ). k < n) (sym are.sized) h)
        ∙ ap suc (are.each k h)
        ∙ sym (ap (λ (b : Bool). cond b (suc (count k before)) (count k before)) (eq-eqb k k refl)))
    | inr other ↦
        get_or-set_other counts k j (suc (get_or counts k 0)) 0 (λ e. other (sym e))
        ∙ are.each j below
        ∙ sym (ap (λ (b : Bool). cond b (suc (count j before)) (count j before)) (ne_eqb k j other))
  ];
}

pub count-few : (counts : List ℕ) (xs : List Tuple) (k : ℕ) → k < 33 → AreCounted counts (passed [] xs) → length xs ≤ 31
    → get_or counts k 0 < 2 ^ 20
count-few counts xs k h are few =
    let one = are.each k h in
    let least = count-least k (passed [] xs) in
    let sized = length-passed [] xs in
    omega arith

-- one tuple more
pub taken-few : (xs : List Tuple) (i : ℕ) → i < length xs → length xs ≤ 31 → length (take i xs) ≤ 31
taken-few xs i h few = let count : length (take i xs) ≡ i = length-take-le i xs (omega arith) in omega arith

pub names-more : (v : Vector) (xs : List Tuple) (i : ℕ) (d : Tuple) (counts : List ℕ) (t : ℕ) → i < length xs
    → AreCounted counts (passed [] (take i xs)) → (get_or xs i d).client < 33
    → t ≡ suc (timestamp_at v (get_or xs i d).client + get_or counts (get_or xs i d).client 0)
    → names_on v [] (take (i + 1) xs) ≡ names_on v [] (take i xs) ++ named (get_or xs i d).client t ∷ []
names-more v xs i d counts t h are below number =
    let k = (get_or xs i d).client in
    ap (names_on v []) (take_more xs i d h) ∙ names-push v [] (take i xs) (get_or xs i d)
    ∙ ap (λ (n : ℕ). names_on v [] (take i xs) ++ named k n ∷ [])
    (sym (number ∙ ap (λ (m : ℕ). suc (timestamp_at v k + m)) (are.each k below)))

pub counted-more : (xs : List Tuple) (i : ℕ) (d : Tuple) (counts next : List ℕ) → i < length xs
    → AreCounted counts (passed [] (take i xs)) → (get_or xs i d).client < 33
    → next ≡ set counts (get_or xs i d).client (suc (get_or counts (get_or xs i d).client 0))
    → AreCounted next (passed [] (take (i + 1) xs))
counted-more xs i d counts next h are below same =
    let k = (get_or xs i d).client in
    subst (λ (w : List ℕ). AreCounted next w)
    (sym (ap (passed []) (take_more xs i d h) ∙ passed-push [] (take i xs) (get_or xs i d)))
    (subst (λ (l : List ℕ). AreCounted l (k ∷ passed [] (take i xs))) (sym same) (one-counted counts (passed [] (take i xs)) k below are))
