-- What the users of a live run do: the promise on receipts rests on this file. A user writes and reads by turns.
use Rattle.std.specs.Prelude.{◌≡◌, ◌==◌, ◌%◌, ◌+◌, ◌≤◌, ℕ, suc, cond, List, [], ◌∷◌, Bool, true, false, length}
use Rattle.faust_types.specs.declared.operation.Kind.TheVariants.{Read, Write}
use Rattle.faust_types.specs.declared.operation.Operation.{Operation}
use Rattle.faust_node.specs.declared.receipt.Receipt.{Receipt}
use Rattle.faust_receipts.specs.Receipts.{ArePrintable}

-- At places counted from 0 it writes at the even ones, and reads the next client's register at the odd ones; behind the
-- last client comes the first.
abbrev pub is_write_turn : ℕ → Bool
is_write_turn place = (place % 2) == 0

abbrev pub next_client : ℕ → ℕ → ℕ
next_client n i = cond (i == n) 1 (i + 1)

-- The operation at a place of the list of client i's user, of n clients, as far as a receipt tells it by itself: that of
-- a write has its client's register anyway.
abbrev pub IsListed : ℕ → ℕ → Bool → Operation → Type 0
IsListed n i true op = op.kind ≡ Write
IsListed n i false op = (op.kind ≡ Read) × (op.register ≡ next_client n i)

-- Receipts of the operations at the places from this one on.
abbrev pub AreListed : ℕ → ℕ → ℕ → List Receipt → Type 0
AreListed n i place [] = Unit {0}
AreListed n i place (receipt ∷ rest) =
    IsListed n i (is_write_turn place) receipt.answer.op × AreListed n i (suc place) rest

-- What client i's user was told: of the first operations of its list, at most as many as it is to make, and each in
-- numbers that a line can tell.
pub record AreTold (n ops i : ℕ) (receipts : List Receipt) : Type 0 where
  pub listed : AreListed n i 0 receipts
  pub few : length receipts ≤ ops
  pub printable : ArePrintable receipts

-- The same of each user, from client i's on.
abbrev pub AreAllTold : ℕ → ℕ → ℕ → List (List Receipt) → Type 0
AreAllTold n ops i [] = Unit {0}
AreAllTold n ops i (receipts ∷ rest) = AreTold n ops i receipts × AreAllTold n ops (suc i) rest
