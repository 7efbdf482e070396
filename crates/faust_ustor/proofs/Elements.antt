-- Elements of a list all of whose elements have a property.
use Rattle.std.proofs.Common.{ℕ, ◌<◌, zero, suc, List, [], ◌∷◌, length, get_or, arith}
use Rattle.std.specs.List.{AllByRecursion}

-- Each element has it.
pub at-all : {X : Type 0} (P : X → Type 0) (xs : List X) (i : ℕ) (d : X) → i < length xs → AllByRecursion P xs → P (get_or xs i d)
at-all P [] i d lt all = absurd (omega arith)
at-all P (x ∷ xs) zero d lt all = all.0
at-all P (x ∷ xs) (suc i) d lt all = at-all P xs i d (omega (arith, lt)) all.1

-- All have it where each element does.
pub all-from : {X : Type 0} (P : X → Type 0) (xs : List X) (d : X) → ((i : ℕ) → i < length xs → P (get_or xs i d)) → AllByRecursion P xs
all-from P [] d each = tt
all-from P (x ∷ xs) d each = (each 0 (omega arith), all-from P xs d (λ i lt. each (suc i) (omega (arith, lt))))
