-- What it means that lists hold each number below m exactly once. The promise rests on it.
use Rattle.std.specs.Prelude.{◌≡◌, ℕ, ◌+◌, cond, eqb, ltb, List, [], ◌∷◌}

-- how often x stands in a list
abbrev pub times : ℕ → List ℕ → ℕ
times x [] = 0
times x (y ∷ ys) = cond (eqb x y) 1 0 + times x ys

-- how often x stands among the numbers below m: once, or not at all
abbrev pub once_below : ℕ → ℕ → ℕ
once_below m x = cond (ltb x m) 1 0

-- each number below m stands in the list exactly once, and no other number does
abbrev pub HoldsEachBelow : ℕ → List ℕ → Type 0
HoldsEachBelow m numbers = (x : ℕ) → times x numbers ≡ once_below m x
