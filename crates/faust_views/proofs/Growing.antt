-- Names put under a place of a tree, one by one.
use Rattle.std.proofs.Common.{◌≡◌, ℕ, ◌+◌, ◌<◌, ◌≤◌, List, [], ◌∷◌, ◌++◌, Option, Some, length, refl, sym, ap, ◌∙◌, append_assoc, length-append, arith}
use Rattle.std.proofs.lemmas.List.{append-nil}
use Rattle.std.proofs.lemmas.Option.{slice_get_within}
use Rattle.faust_types.specs.declared.operation.OpName.{OpName}
use Rattle.faust_tree.specs.Trees.{Adds, IsUnder, found, made, path_of, path_under}
use Rattle.faust_tree.specs.declared.node.Node.{Node}
use Rattle.faust_views.specs.Grown.{Extends}

-- a node that was added is in the tree, which has at most one more
pub record IsAdded (tree after : List Node) (k : ℕ) : Type 0 where
  pub inside : k < length after
  pub longer : length tree ≤ length after
  pub few : length after ≤ length tree + 1

pub added : (tree : List Node) (node : Node) (after : List Node) (k : ℕ) → Adds tree node after k → IsAdded tree after k
added tree node after k (found there same) =
    let count : length after ≡ length tree = ap length same in
    let inside = slice_get_within tree k node there in
    record { inside = omega arith; longer = omega arith; few = omega arith }
added tree node after k (made absent place longer) =
    let count : length after ≡ length tree + 1 = ap length longer ∙ length-append tree (node ∷ []) in
    record { inside = omega arith; longer = omega arith; few = omega arith }

pub extends-none : (tree : List Node) (base : Option ℕ) → IsUnder tree base → Extends tree tree base base []
extends-none tree base inside = record {
  inside = inside;
  path_is = sym (append-nil (path_under tree base));
  kept = λ k h. refl;
  longer = omega arith;
  few = omega arith;
}

pub extends-one : (tree mid after : List Node) (base place : Option ℕ) (names : List OpName) (name : OpName) (k : ℕ)
    → Extends tree mid base place names → Adds mid (record { under = place; name = name }) after k
    → path_of after k ≡ path_under mid place ++ name ∷ []
    → ((j : ℕ) → j < length mid → path_of after j ≡ path_of mid j)
    → Extends tree after base (Some k) (names ++ name ∷ [])
extends-one tree mid after base place names name k before adds path kept =
    let is = added mid (record { under = place; name = name }) after k adds in
    let inside = is.inside in
    let longer = is.longer in
    let few = is.few in
    let was_longer = before.longer in
    let was_few = before.few in
    let count : length (names ++ name ∷ []) ≡ length names + 1 = length-append names (name ∷ []) in
    record {
      inside = inside;
      path_is = path ∙ ap (λ (l : List OpName). l ++ name ∷ []) before.path_is ∙ append_assoc (path_under tree base) names (name ∷ []);
      kept = λ j h. kept j (omega arith) ∙ before.kept j h;
      longer = omega arith;
      few = omega arith;
    }
