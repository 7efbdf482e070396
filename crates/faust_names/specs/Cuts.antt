-- Right cuts: what a client that announces a cut may rely on. The promise that every announced cut is right rests on
-- this file.
use Rattle.std.specs.Prelude.{◌≡◌, ℕ, ◌-◌, ◌≤◌, ◌⊎◌, List, [], ◌∷◌, ◌++◌, slice_index}
use Rattle.faust_types.specs.Clients.{IsClient}
use Rattle.faust_types.specs.declared.operation.OpName.{OpName}
use Rattle.faust_lists.specs.Names.{Has}
use Rattle.faust_names.specs.Histories.{named, History, Precedes}
use Rattle.faust_names.specs.Views.{IsBefore, IsLegal, IsPrefix}

-- The number that a cut has for client k.
abbrev pub number_at : List ℕ → ℕ → ℕ
number_at cut k = slice_index cut (k - 1)

-- The cut covers client k at the own operation t.
pub record IsCovered (n : ℕ) (cut : List ℕ) (t k : ℕ) : Type 0 where
  pub client : IsClient n k
  pub reached : t ≤ number_at cut k

-- A list is a linearization of what it holds: it is legal, and what completed before one of its operations began stands
-- in it before that one.
pub record IsLinearization (h : History) (l : List OpName) : Type 0 where
  pub legal : IsLegal h l
  pub real_time : (a b : OpName) → Has l b → Precedes h a b → IsBefore l a b

-- One of two lists begins with the other.
abbrev pub StandInLine : {X : Type 0} → List X → List X → Type 0
StandInLine l m = IsPrefix l m ⊎ IsPrefix m l

-- A cut of client i is right up to its operation t: the front of its list that ends with it is legal; each operation of
-- a covered client that completed before one of the front began stands in it before that one; and the front and the
-- list of each covered client stand in line.
pub record IsRightUpTo (n : ℕ) (h : History) (lists : ℕ → List OpName) (i : ℕ) (cut : List ℕ) (t : ℕ) : Type 0 where
  pub front : List OpName
  pub before : List OpName
  pub ends : front ≡ before ++ named i t ∷ []
  pub is_front : IsPrefix front (lists i)
  pub legal : IsLegal h front
  pub real_time : (a b : OpName) → IsCovered n cut t a.client → Has front b → Precedes h a b → IsBefore front a b
  pub in_line : (k : ℕ) → IsCovered n cut t k → StandInLine front (lists k)

-- A cut of client i is right: up to each own operation that it counts.
abbrev pub IsRightCut : ℕ → History → (ℕ → List OpName) → ℕ → List ℕ → Type 0
IsRightCut n h lists i cut = (t : ℕ) → 1 ≤ t → t ≤ number_at cut i → IsRightUpTo n h lists i cut t
