-- Facts by recursion that have one proof at most. This file helps proofs.
use Rattle.std.specs.Prelude.{ℕ, suc, Bool, true, false, List, [], ◌∷◌}
use Rattle.std.specs.Coded.{×_prop, Unit-prop}
use Rattle.std.proofs.Props.{props}
use Rattle.faust_types.specs.declared.operation.Answer.{Answer}
use Rattle.faust_types.specs.declared.operation.Operation.{Operation}
use Rattle.faust_node.specs.declared.receipt.Receipt.{Receipt}
use Rattle.faust_receipts.specs.Receipts.{ArePrintable, IsPrintable}
use Rattle.faust_outcome.specs.UserLists.{AreListed, IsListed, is_write_turn}

is-listed-prop : (n i : ℕ) (b : Bool) (op : Operation) → IsProp (IsListed n i b op)
is-listed-prop n i true op = Prim.hlevel props
is-listed-prop n i false op = Prim.hlevel props

pub listed-prop : (n i place : ℕ) (receipts : List Receipt) → IsProp (AreListed n i place receipts)
listed-prop n i place [] = Unit-prop
listed-prop n i place (receipt ∷ rest) =
    ×_prop (is-listed-prop n i (is_write_turn place) receipt.answer.op) (listed-prop n i (suc place) rest)

is-printable-prop : (number : ℕ) (answer : Answer) → IsProp (IsPrintable number answer)
is-printable-prop number answer = Prim.hlevel props

pub printable-prop : (receipts : List Receipt) → IsProp (ArePrintable receipts)
printable-prop [] = Unit-prop
printable-prop (receipt ∷ rest) = ×_prop (is-printable-prop receipt.number receipt.answer) (printable-prop rest)
