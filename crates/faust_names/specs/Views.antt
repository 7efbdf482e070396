-- Views: lists of names of operations, the first one first, and the four properties that views of clients have. The
-- promise that views are weak fork-linearizable and causal rests on this file.
use Rattle.std.specs.Prelude.{◌≡◌, ◌↔◌, ℕ, ◌==◌, ◌<◌, ◌≤◌, ◌⊎◌, cond, List, [], ◌∷◌, ◌++◌, Option, None, Some}
use Rattle.faust_types.specs.Clients.{IsClient}
use Rattle.faust_types.specs.declared.operation.Kind.TheVariants.{Read}
use Rattle.faust_types.specs.declared.operation.OpName.{OpName}
use Rattle.faust_lists.specs.Names.{AreDistinct, Before, Has}
use Rattle.faust_forks.specs.Books.{Begun}
use Rattle.faust_forks.specs.Answers.{written_by}
use Rattle.faust_names.specs.Histories.{Finished, History, IsCompleted, IsOperation, IsWrite, Precedes}

-- a stands before b in the list. (`Before` is said of lists that have the last one first.)
abbrev pub IsBefore : {X : Type 0} → List X → X → X → Type 0
IsBefore l a b = Before l b a

-- The list begins with the other one.
abbrev pub IsPrefix : {X : Type 0} → List X → List X → Type 0
IsPrefix [] l = Unit {0}
IsPrefix (x ∷ p) [] = ⊥
IsPrefix (x ∷ p) (y ∷ l) = (x ≡ y) × IsPrefix p l

-- The list has a later operation of the client of a.
pub record HasLater (l : List OpName) (a : OpName) : Type 0 where
  pub later : OpName
  pub in_list : Has l later
  pub same_client : later.client ≡ a.client
  pub greater : a.t < later.t

-- What register r holds after an operation, and after those of a list, where it held a value before.
abbrev pub held_by : ℕ → Option Begun → Option (List ℕ) → Option (List ℕ)
held_by r None value = value
held_by r (Some begun) value = cond (begun.register == r) (written_by begun.kind begun.value value) value

abbrev pub held_after : History → ℕ → List OpName → Option (List ℕ) → Option (List ℕ)
held_after h r [] value = value
held_after h r (a ∷ l) value = held_after h r l (held_by r (h.began a) value)

-- The value of the last write of register r in the list, or none where there is no such write.
abbrev pub last_written : History → ℕ → List OpName → Option (List ℕ)
last_written h r l = held_after h r l None

-- The read a of register r completed, and answered the value of the last write of r in the list before it.
pub record IsAnsweredAfter (h : History) (before : List OpName) (r : ℕ) (a : OpName) : Type 0 where
  pub finished : Finished
  pub completed : h.completed a ≡ Some finished
  pub value : finished.value ≡ last_written h r before

-- Each read in the list did so.
abbrev pub IsLegal : History → List OpName → Type 0
IsLegal h l = (before : List OpName) (a : OpName) (begun : Begun) → IsPrefix (before ++ a ∷ []) l → h.began a ≡ Some begun
    → begun.kind ≡ Read → IsAnsweredAfter h before begun.register a

-- A view of client i: the names are those of operations, none stands twice, the numbers of each client rise, those of
-- client i are all its completed operations, and the list is legal.
pub record IsViewOf (h : History) (i : ℕ) (l : List OpName) : Type 0 where
  pub operations : (a : OpName) → Has l a → IsOperation h a
  pub once : AreDistinct l
  pub rising : (a b : OpName) → IsBefore l a b → a.client ≡ b.client → a.t < b.t
  pub own : (a : OpName) → a.client ≡ i → Has l a ↔ IsCompleted h a
  pub legal : IsLegal h l

-- Program order: b is a later operation of the client of a.
pub record IsLaterInProgram (h : History) (a b : OpName) : Type 0 where
  pub operation : IsOperation h a
  pub same_client : a.client ≡ b.client
  pub greater : a.t < b.t

-- Reads-from: b is a completed read, and a the last write of the register's client up to the number as of which b
-- answered.
pub record IsReadFrom (h : History) (a b : OpName) : Type 0 where
  pub begun : Begun
  pub began : h.began b ≡ Some begun
  pub reads : begun.kind ≡ Read
  pub finished : Finished
  pub completed : h.completed b ≡ Some finished
  pub write : IsWrite h a
  pub of_register : a.client ≡ begun.register
  pub within : a.t ≤ finished.asof
  pub last : (c : OpName) → IsWrite h c → c.client ≡ begun.register → c.t ≤ finished.asof → c.t ≤ a.t

abbrev pub IsDirectCause : History → OpName → OpName → Type 0
IsDirectCause h a b = IsLaterInProgram h a b ⊎ IsReadFrom h a b

-- Causal order: from a to b by way of the operations between.
abbrev pub Causes : History → OpName → List OpName → OpName → Type 0
Causes h a [] b = IsDirectCause h a b
Causes h a (x ∷ between) b = IsDirectCause h a x × Causes h x between b

-- Each write that causally precedes an operation of the list stands in it before that one.
abbrev pub IsCausal : History → List OpName → Type 0
IsCausal h l = (a b : OpName) (between : List OpName) → Has l b → IsWrite h a → Causes h a between b → IsBefore l a b

-- Of two operations of the list the one that precedes stands before the other, unless it is the last of its client in
-- the list.
abbrev pub KeepsWeakRealTime : History → List OpName → Type 0
KeepsWeakRealTime h l = (a b : OpName) → Has l a → Has l b → Precedes h a b → HasLater l a → IsBefore l a b

-- Where two lists have an operation and a later one of its client, what stands before it is the same in both.
abbrev pub JoinAtMostOnce : List OpName → List OpName → Type 0
JoinAtMostOnce l m = (a : OpName) (before other : List OpName) → IsPrefix (before ++ a ∷ []) l → IsPrefix (other ++ a ∷ []) m
    → HasLater l a → HasLater m a → before ≡ other

-- The lists of clients 1 to n are weak fork-linearizable and causal.
pub record IsWeakForkLinearizable (n : ℕ) (h : History) (lists : ℕ → List OpName) : Type 0 where
  pub views : (i : ℕ) → IsClient n i → IsViewOf h i (lists i)
  pub causal : (i : ℕ) → IsClient n i → IsCausal h (lists i)
  pub real_time : (i : ℕ) → IsClient n i → KeepsWeakRealTime h (lists i)
  pub joins : (i j : ℕ) → IsClient n i → IsClient n j → JoinAtMostOnce (lists i) (lists j)
