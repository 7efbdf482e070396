-- What stands in lists that are put together.
use Rattle.std.proofs.Common.{List, [], ◌∷◌, ◌++◌, inl, inr}
use Rattle.faust_lists.specs.Names.{Has}

pub has-left : {X : Type 0} (xs ys : List X) (a : X) → Has xs a → Has (xs ++ ys) a
has-left [] ys a has = absurd has
has-left (x ∷ xs) ys a (inl same) = inl same
has-left (x ∷ xs) ys a (inr has) = inr (has-left xs ys a has)

pub has-right : {X : Type 0} (xs ys : List X) (a : X) → Has ys a → Has (xs ++ ys) a
has-right [] ys a has = has
has-right (x ∷ xs) ys a has = inr (has-right xs ys a has)
