-- The names of the operations of a history, the last one first, and their order. A promise on views rests on this
-- file.
use Rattle.std.specs.Prelude.{◌≡◌, ℕ, ◌≤◌, ◌⊎◌, suc, cond, Bool, true, List, [], ◌∷◌}
use Rattle.faust_types.specs.declared.operation.OpName.{OpName}
use Rattle.faust_lists.specs.Lists.{count, upto}

-- The name of the operation that client k adds to a history.
abbrev pub name_of : ℕ → List ℕ → OpName
name_of k w = record { client = k; t = suc (count k w) }

-- The names of those operations that a test keeps. It is given the history up to and with the operation.
abbrev pub sift : (List ℕ → Bool) → List ℕ → List OpName
sift keep [] = []
sift keep (k ∷ w) = cond (keep (k ∷ w)) (name_of k w ∷ sift keep w) (sift keep w)

-- The names of all operations.
abbrev pub names : List ℕ → List OpName
names w = sift (λ _. true) w

-- The list has the item.
abbrev pub Has : {X : Type 0} → List X → X → Type 0
Has [] a = ⊥
Has (x ∷ l) a = (a ≡ x) ⊎ Has l a

-- The operation is one of the history, and the test keeps it.
pub record IsKept (keep : List ℕ → Bool) (w : List ℕ) (a : OpName) : Type 0 where
  pub from_one : 1 ≤ a.t
  pub within : a.t ≤ count a.client w
  pub kept : keep (upto a.client a.t w) ≡ true

-- No item stands twice.
abbrev pub AreDistinct : {X : Type 0} → List X → Type 0
AreDistinct [] = Unit {0}
AreDistinct (x ∷ l) = (Has l x → ⊥) × AreDistinct l

-- a stands before b in time, that is behind it in the list.
abbrev pub Before : {X : Type 0} → List X → X → X → Type 0
Before [] a b = ⊥
Before (x ∷ l) a b = ((b ≡ x) × Has l a) ⊎ Before l a b
