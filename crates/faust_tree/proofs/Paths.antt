-- The paths of a tree's nodes: how they grow with it, and that equal paths are one node.
use Rattle.std.proofs.Common.{◌≡◌, ℕ, zero, suc, ◌+◌, ◌<◌, ◌≤◌, List, [], ◌∷◌, ◌++◌, Option, Some, None, IfSome, length, get_or, refl, sym, ap, ◌∙◌, subst, add-zero, zero-add, length-append, arith}
use Rattle.std.specs.List.{slice_get}
use Rattle.std.proofs.lemmas.List.{get_or_append_left, get_or_at}
use Rattle.faust_types.specs.declared.operation.OpName.{OpName}
use Rattle.faust_tree.specs.Trees.{IsTree, path_above, path_of, path_to, path_under, paths_of, paths_onto}
use Rattle.faust_tree.specs.Kept.{paths_with}
use Rattle.faust_tree.specs.declared.node.Node.{Node}
use Rattle.faust_tree.proofs.Lists.{nil-snoc, snoc-same, stands}

onto-append : (paths : List (List OpName)) (xs ys : List Node) → paths_onto paths (xs ++ ys) ≡ paths_onto (paths_onto paths xs) ys
onto-append paths [] ys = refl
onto-append paths (x ∷ xs) ys = onto-append (paths ++ path_to paths x ∷ []) xs ys

-- one more node
pub paths-push : (tree : List Node) (node : Node) → paths_of (tree ++ node ∷ []) ≡ paths_with tree node
unfolding paths_of
paths-push tree node = onto-append [] tree (node ∷ [])

length-onto : (paths : List (List OpName)) (xs : List Node) → length (paths_onto paths xs) ≡ length paths + length xs
length-onto paths [] = sym (add-zero (length paths))
length-onto paths (x ∷ xs) =
    let rest = length-onto (paths ++ path_to paths x ∷ []) xs in
    let one : length (paths ++ path_to paths x ∷ []) ≡ length paths + 1 = length-append paths (path_to paths x ∷ []) in
    omega arith

pub length-paths : (tree : List Node) → length (paths_of tree) ≡ length tree
unfolding paths_of
length-paths tree = length-onto [] tree ∙ zero-add _

onto-keeps : (paths : List (List OpName)) (xs : List Node) (k : ℕ) → k < length paths
    → get_or (paths_onto paths xs) k [] ≡ get_or paths k []
onto-keeps paths [] k h = refl
onto-keeps paths (x ∷ xs) k h =
    let one : length (paths ++ path_to paths x ∷ []) ≡ length paths + 1 = length-append paths (path_to paths x ∷ []) in
    onto-keeps (paths ++ path_to paths x ∷ []) xs k (omega arith)
    ∙ get_or_append_left paths (path_to paths x ∷ []) [] k h

-- the paths of the nodes of a tree stay as they were, and the path of one more node is the one to it
pub path-kept : (tree : List Node) (node : Node) (k : ℕ) → k < length tree → path_of (tree ++ node ∷ []) k ≡ path_of tree k
path-kept tree node k h =
    ap (λ (paths : List (List OpName)). get_or paths k []) (paths-push tree node)
    ∙ get_or_append_left (paths_of tree) (path_to (paths_of tree) node ∷ []) [] k (subst (λ (n : ℕ). k < n) (sym (length-paths tree)) h)

pub path-last : (tree : List Node) (node : Node) → path_of (tree ++ node ∷ []) (length tree) ≡ path_to (paths_of tree) node
path-last tree node =
    ap (λ (paths : List (List OpName)). get_or paths (length tree) []) (paths-push tree node)
    ∙ get_or_at (paths_of tree) (path_to (paths_of tree) node) [] [] (length tree) (length-paths tree)

-- the path to a place that the first nodes have
above-kept : (paths : List (List OpName)) (xs : List Node) (under : Option ℕ) (n : ℕ) → length paths ≡ n
    → IfSome under (λ above. above < n) → path_above (paths_onto paths xs) under ≡ path_above paths under
above-kept paths xs None n same h = refl
above-kept paths xs (Some above) n same h = onto-keeps paths xs above (subst (λ (m : ℕ). above < m) (sym same) h)

to-kept : (paths : List (List OpName)) (xs : List Node) (node : Node) → IfSome node.under (λ above. above < length paths)
    → path_to (paths_onto paths xs) node ≡ path_to paths node
to-kept paths xs node h =
    ap (λ (front : List OpName). front ++ node.name ∷ []) (above-kept paths xs node.under (length paths) refl h)

onto-at : (paths : List (List OpName)) (xs : List Node) (k i : ℕ) (node : Node) → slice_get xs k ≡ Some node
    → length paths + k ≡ i → IfSome node.under (λ above. above < i)
    → get_or (paths_onto paths xs) i [] ≡ path_to (paths_onto paths xs) node
onto-at paths [] k i node h same earlier = cc
onto-at paths (x ∷ xs) zero i node h same earlier =
    let first : x ≡ node = cc in
    let here : length paths ≡ i = omega arith in
    let one : length (paths ++ path_to paths x ∷ []) ≡ length paths + 1 = length-append paths (path_to paths x ∷ []) in
    let inside : i < length (paths ++ path_to paths x ∷ []) = omega arith in
    let before : IfSome node.under (λ above. above < length paths) =
    subst (λ (n : ℕ). IfSome node.under (λ above. above < n)) (sym here) earlier in
    onto-keeps (paths ++ path_to paths x ∷ []) xs i inside
    ∙ get_or_at paths (path_to paths x) [] [] i here
    ∙ ap (λ (y : Node). path_to paths y) first
    ∙ sym (to-kept paths (x ∷ xs) node before)
onto-at paths (x ∷ xs) (suc k) i node h same earlier =
    let one : length (paths ++ path_to paths x ∷ []) ≡ length paths + 1 = length-append paths (path_to paths x ∷ []) in
    onto-at (paths ++ path_to paths x ∷ []) xs k i node h (omega arith) earlier

-- the path of a node is that to its place, and then its name
pub path-at : (tree : List Node) (k : ℕ) (node : Node) → slice_get tree k ≡ Some node → IfSome node.under (λ above. above < k)
    → path_of tree k ≡ path_under tree node.under ++ node.name ∷ []
unfolding paths_of
path-at tree k node h earlier = onto-at [] tree k k node h (zero-add k) earlier

named : Option ℕ → OpName → Node
named under name = record { under = under; name = name }

node-same : (x y : Node) → x.under ≡ y.under → x.name ≡ y.name → x ≡ y
unfolding named
node-same x y under name =
    ap (λ (u : Option ℕ). named u x.name) under ∙ ap (λ (n : OpName). named y.under n) name

-- a path has a name at least
path-full : (tree : List Node) → IsTree tree → (k : ℕ) → k < length tree → [] ≡ path_of tree k → ⊥
path-full tree is k h empty =
    let there = stands tree k h in
    nil-snoc (path_under tree there.item.under) there.item.name
    (empty ∙ path-at tree k there.item there.is_there (is.earlier k there.item there.is_there))

-- equal paths to two places are to one place, where that holds of the nodes before
same-above : (tree : List Node) → IsTree tree → (n : ℕ) → n ≤ length tree
    → ((a b : ℕ) → a < n → b < length tree → path_of tree a ≡ path_of tree b → a ≡ b)
    → (p q : Option ℕ) → IfSome p (λ above. above < n) → IfSome q (λ above. above < length tree)
    → path_under tree p ≡ path_under tree q → p ≡ q
same-above tree is n fits before None None hp hq same = refl
same-above tree is n fits before None (Some q) hp hq same = absurd (path-full tree is q hq same)
same-above tree is n fits before (Some p) None hp hq same = absurd (path-full tree is p (omega arith) (sym same))
same-above tree is n fits before (Some p) (Some q) hp hq same = ap Some (before p q hp hq same)

IfSome-below : (o : Option ℕ) (m n : ℕ) → m ≤ n → IfSome o (λ above. above < m) → IfSome o (λ above. above < n)
IfSome-below None m n h below = below
IfSome-below (Some above) m n h below = omega arith

-- two nodes with equal paths, the first of which is one of the first n
one-below : (tree : List Node) → IsTree tree → (n : ℕ) → n ≤ length tree
    → (a b : ℕ) → a < n → b < length tree → path_of tree a ≡ path_of tree b → a ≡ b
one-below tree is zero fits a b ha hb same = absurd (omega arith)
one-below tree is (suc n) fits a b ha hb same =
    let x = stands tree a (omega arith) in
    let y = stands tree b hb in
    let x_earlier = is.earlier a x.item x.is_there in
    let y_earlier = is.earlier b y.item y.is_there in
    let parts = snoc-same (path_under tree x.item.under) (path_under tree y.item.under) x.item.name y.item.name
    (sym (path-at tree a x.item x.is_there x_earlier) ∙ same ∙ path-at tree b y.item y.is_there y_earlier) in
    let under : x.item.under ≡ y.item.under = same-above tree is n (omega arith) (one-below tree is n (omega arith))
    x.item.under y.item.under (IfSome-below x.item.under a n (omega arith) x_earlier)
    (IfSome-below y.item.under b (length tree) (omega arith) y_earlier) parts.0 in
    let node : x.item ≡ y.item = node-same x.item y.item under parts.1 in
    is.one a b y.item (x.is_there ∙ ap Some node) y.is_there

pub one_node_a_path : (tree : List Node) (a b : ℕ) → IsTree tree → a < length tree → b < length tree
    → path_of tree a ≡ path_of tree b → a ≡ b
one_node_a_path tree a b is ha hb same = one-below tree is (length tree) (omega arith) a b ha hb same
