-- What a tree keeps of its nodes, and keeps when a node is added.
use Rattle.std.proofs.Common.{◌≡◌, ℕ, ◌+◌, ◌-◌, ◌^◌, ◌<◌, ◌≤◌, Bool, true, false, List, [], ◌∷◌, ◌++◌, Option, Some, None, IfSome, Result, Ok, Err, IfOk, OnErr, length, get_or, option_map, refl, sym, ap, ◌∙◌, subst, inl, inr, length-append, arith}
use Rattle.std.specs.declared.cmp.Ordering.{Ordering}
use Rattle.std.specs.declared.cmp.Ordering.TheVariants.{Less, Equal, Greater}
use Rattle.std.specs.Ordering.{MatchOrdering, is_eq, nat_cmp, ordering_then}
use Rattle.std.specs.Option.{option_cmp}
use Rattle.std.specs.List.{slice_get}
use Rattle.std.proofs.lemmas.List.{get_or_append_left, get_or_at, length-map, map-append}
use Rattle.std.proofs.lemmas.Option.{slice_get-map, slice_get_read}
use Rattle.std.proofs.lemmas.Bool.{false≢true}
use Rattle.std.proofs.lemmas.Cmp.{ranked}
use Rattle.faust_types.specs.declared.operation.OpName.{OpName}
use Rattle.faust_tree.specs.Trees.{IsNew, IsPrefix, IsTree, path_above, path_of, path_to, path_under, paths_of}
use Rattle.faust_tree.specs.Kept.{IsJumpIn, IsSlot, IsSlotFor, child_of, paths_with}
use Rattle.faust_tree.specs.KeptTree.{AreFound, IsKept, child_order, nodes_of}
use Rattle.faust_tree.specs.declared.node.Node.{Node}
use Rattle.faust_tree.specs.declared.node.Slot.{Slot}
use Rattle.faust_tree.specs.declared.node.Child.{Child}
use Rattle.faust_tree.proofs.Lists.{at-last, at-left, at-snoc, stands, within}
use Rattle.faust_tree.proofs.Paths.{length-paths, one_node_a_path, path-at, path-kept, path-last, paths-push}
use Rattle.faust_tree.proofs.Prefixes.{prefix-left, prefix-length, prefix-one, prefix-refl, prefix-trans}

-- ---- keys that compare equal are equal
then-same : (a b : Ordering) → is_eq (ordering_then a b) ≡ true → (is_eq a ≡ true) × (is_eq b ≡ true)
then-same Less b h = absurd (false≢true h)
then-same Equal b h = (refl, h)
then-same Greater b h = absurd (false≢true h)

num-as : (x y : ℕ) (r : Ordering) → MatchOrdering r (x < y) (x ≡ y) (y < x) → is_eq r ≡ true → x ≡ y
num-as x y Less is h = absurd (false≢true h)
num-as x y Equal is h = is
num-as x y Greater is h = absurd (false≢true h)

num-same : (x y : ℕ) → is_eq (nat_cmp x y) ≡ true → x ≡ y
num-same x y h = num-as x y (nat_cmp x y) (ranked x y (nat_cmp x y) refl) h

place-same : (x y : Option ℕ) → is_eq (option_cmp nat_cmp x y) ≡ true → x ≡ y
place-same None None h = refl
place-same None (Some y) h = absurd (false≢true h)
place-same (Some x) None h = absurd (false≢true h)
place-same (Some x) (Some y) h = ap Some (num-same x y h)

keyed : Option ℕ → ℕ → ℕ → Child
keyed under client t = record { under = under; client = client; t = t }

child-same : (x y : Child) → x.under ≡ y.under → x.client ≡ y.client → x.t ≡ y.t → x ≡ y
unfolding keyed
child-same x y under client t =
    ap (λ (u : Option ℕ). keyed u x.client x.t) under ∙ ap (λ (k : ℕ). keyed y.under k x.t) client
    ∙ ap (λ (k : ℕ). keyed y.under y.client k) t

same-child : (x y : Child) → is_eq (child_order x y) ≡ true → x ≡ y
same-child x y h =
    let outer = then-same (option_cmp nat_cmp x.under y.under) (ordering_then (nat_cmp x.client y.client) (nat_cmp x.t y.t)) h in
    let inner = then-same (nat_cmp x.client y.client) (nat_cmp x.t y.t) outer.1 in
    child-same x y (place-same x.under y.under outer.0) (num-same x.client y.client inner.0) (num-same x.t y.t inner.1)

node-of : Child → Node
node-of child = record { under = child.under; name = record { client = child.client; t = child.t } }

child-node : (x y : Node) → child_of x ≡ child_of y → x ≡ y
unfolding node-of
child-node x y h = ap node-of h

-- ---- the slot of a node
pub record IsSlotAt (tree : List Node) (a : ℕ) (slot : Slot) : Type 0 where
  pub there : slice_get tree a ≡ Some slot.node
  pub slot_is : IsSlot (paths_of tree) a slot
  pub path_is : path_of tree a ≡ path_under tree slot.node.under ++ slot.node.name ∷ []

node-at : (slots : List Slot) (a : ℕ) (slot : Slot) → slice_get slots a ≡ Some slot → slice_get (nodes_of slots) a ≡ Some slot.node
node-at slots a slot h = slice_get-map (λ (s : Slot). s.node) slots a ∙ ap (option_map (λ (s : Slot). s.node)) h

slot-there : (slots : List Slot) (find : Child → Option ℕ) (a : ℕ) (slot : Slot) → IsKept slots find → slice_get slots a ≡ Some slot
    → IsSlotAt (nodes_of slots) a slot
slot-there slots find a slot kept h =
    let is = kept.slots_are a slot h in
    let there = node-at slots a slot h in
    record { there = there; slot_is = is; path_is = path-at (nodes_of slots) a slot.node there is.earlier }

-- a path has as many names as the depth says
pub depth-some : (tree : List Node) (a : ℕ) (slot : Slot) → IsSlotAt tree a slot → 1 ≤ slot.depth
depth-some tree a slot is =
    let names : length (path_of tree a) ≡ length (path_under tree slot.node.under) + 1 =
    ap length is.path_is ∙ length-append (path_under tree slot.node.under) (slot.node.name ∷ []) in
    let depth = is.slot_is.depth_is in
    omega arith

-- what is read of a tree
pub slot-at : (slots : List Slot) (find : Child → Option ℕ) (tree : List Node) (n a : ℕ) (slot : Slot) → IsKept slots find
    → nodes_of slots ≡ tree → a < length tree → slot ≡ get_or slots a slot → IsSlotAt tree a slot
slot-at slots find tree n a slot kept same h read =
    let count : length slots ≡ length tree = sym (length-map slots (λ (s : Slot). s.node)) ∙ ap length same in
    subst (λ (nodes : List Node). IsSlotAt nodes a slot) same
    (slot-there slots find a slot kept (slice_get_read slots (length slots) a slot refl (omega arith) read))

-- the nodes are a tree
some-same : (x y : ℕ) → Some x ≡ Some y → x ≡ y
some-same x y h = cc

node-same-some : (x y : Node) → Some x ≡ Some y → x ≡ y
node-same-some x y h = cc

pub kept-is-tree : (slots : List Slot) (find : Child → Option ℕ) → IsKept slots find → IsTree (nodes_of slots)
kept-is-tree slots find kept = record {
  earlier = λ k node h.
      let there = stands slots k (subst (λ (n : ℕ). k < n) (length-map slots (λ (s : Slot). s.node)) (within (nodes_of slots) node k h)) in
      let same : there.item.node ≡ node = node-same-some there.item.node node (sym (node-at slots k there.item there.is_there) ∙ h) in
      subst (λ (n : Node). IfSome n.under (λ above. above < k)) same (kept.slots_are k there.item there.is_there).earlier;
  one = λ k l node h i. some-same k l (sym (kept.found.each k node h) ∙ kept.found.each l node i);
}

-- ---- one more node
jump-grows : (paths : List (List OpName)) (path : List OpName) (a jump : ℕ) → a < length paths → IsJumpIn paths a jump
    → IsJumpIn (paths ++ path ∷ []) a jump
jump-grows paths path a jump inside is =
    let here : get_or (paths ++ path ∷ []) a [] ≡ get_or paths a [] = get_or_append_left paths (path ∷ []) [] a inside in
    let there : get_or (paths ++ path ∷ []) jump [] ≡ get_or paths jump [] =
    get_or_append_left paths (path ∷ []) [] jump (let at_most = is.within in omega arith) in
    record {
      within = is.within;
      prefix = subst (λ (p : List OpName). IsPrefix p (get_or (paths ++ path ∷ []) a [])) (sym there)
          (subst (λ (q : List OpName). IsPrefix (get_or paths jump []) q) (sym here) is.prefix);
      nearer = λ h. subst (λ (p : List OpName). length p < length (get_or (paths ++ path ∷ []) a [])) (sym there)
          (subst (λ (q : List OpName). length (get_or paths jump []) < length q) (sym here)
          (is.nearer (subst (λ (q : List OpName). 2 ≤ length q) here h)));
    }

slot-grows : (paths : List (List OpName)) (path : List OpName) (a : ℕ) (slot : Slot) → a < length paths → IsSlot paths a slot
    → IsSlot (paths ++ path ∷ []) a slot
slot-grows paths path a slot inside is = record {
  earlier = is.earlier;
  depth_is = is.depth_is ∙ ap length (sym (get_or_append_left paths (path ∷ []) [] a inside));
  shallow = is.shallow;
  jump_is = jump-grows paths path a slot.jump inside is.jump_is;
}

module _ (slots : List Slot) (find next : Child → Option ℕ) (slot : Slot) (kept : IsKept slots find)
    (few : length (nodes_of slots) < 2 ^ 32 - 1) (absent : IsNew (nodes_of slots) slot.node)
    (fits : IsSlotFor (nodes_of slots) slot.node slot)
    (here : next (child_of slot.node) ≡ Some (length (nodes_of slots)))
    (others : (q : Child) → is_eq (child_order (child_of slot.node) q) ≡ false → next q ≡ find q) where
  nodes-push : nodes_of (slots ++ slot ∷ []) ≡ nodes_of slots ++ slot.node ∷ []
  nodes-push = map-append (λ (s : Slot). s.node) slots (slot ∷ [])

  slots-push : (a : ℕ) (s : Slot) → slice_get (slots ++ slot ∷ []) a ≡ Some s → IsSlot (paths_with (nodes_of slots) slot.node) a s
  slots-push a s h = elim (at-snoc slots slot s a h) [
    | inl old ↦
        let inside : a < length (paths_of (nodes_of slots)) = subst (λ (n : ℕ). a < n)
        (sym (length-paths (nodes_of slots) ∙ length-map slots (λ (s : Slot). s.node))) (within slots s a old) in
        slot-grows (paths_of (nodes_of slots)) (path_to (paths_of (nodes_of slots)) slot.node) a s inside (kept.slots_are a s old)
    | inr last ↦
        let place : length (nodes_of slots) ≡ a = length-map slots (λ (s : Slot). s.node) ∙ sym last.0 in
        subst (λ (t : Slot). IsSlot (paths_with (nodes_of slots) slot.node) a t) (sym last.1)
        (subst (λ (n : ℕ). IsSlot (paths_with (nodes_of slots) slot.node) n slot) place fits.slot_is)
  ]

  each-old : (k : ℕ) (node : Node) → slice_get (nodes_of slots) k ≡ Some node
      → (b : Bool) → is_eq (child_order (child_of slot.node) (child_of node)) ≡ b → next (child_of node) ≡ Some k
  each-old k node old true same =
      let node_is : slot.node ≡ node = child-node slot.node node (same-child (child_of slot.node) (child_of node) same) in
      absurd (absent k (old ∙ ap Some (sym node_is)))
  each-old k node old false apart = others (child_of node) apart ∙ kept.found.each k node old

  each-push : (k : ℕ) (node : Node) → slice_get (nodes_of slots ++ slot.node ∷ []) k ≡ Some node → next (child_of node) ≡ Some k
  each-push k node h = elim (at-snoc (nodes_of slots) slot.node node k h) [
    | inl old ↦ each-old k node old (is_eq (child_order (child_of slot.node) (child_of node))) refl
    | inr last ↦ ap (λ (n : Node). next (child_of n)) last.1 ∙ here ∙ ap Some (sym last.0)
  ]

  only-push : (node : Node) (k : ℕ) → next (child_of node) ≡ Some k
      → (b : Bool) → is_eq (child_order (child_of slot.node) (child_of node)) ≡ b
      → slice_get (nodes_of slots ++ slot.node ∷ []) k ≡ Some node
  only-push node k h true same =
      let node_is : slot.node ≡ node = child-node slot.node node (same-child (child_of slot.node) (child_of node) same) in
      let place : length (nodes_of slots) ≡ k =
      some-same (length (nodes_of slots)) k (sym here ∙ ap (λ (n : Node). next (child_of n)) node_is ∙ h) in
      subst (λ (n : ℕ). slice_get (nodes_of slots ++ slot.node ∷ []) n ≡ Some node) place
      (at-last (nodes_of slots) slot.node ∙ ap Some node_is)
  only-push node k h false apart =
      at-left (nodes_of slots) (slot.node ∷ []) node k
      (kept.found.only node k (sym (others (child_of node) apart) ∙ h))

  pub kept-push : IsKept (slots ++ slot ∷ []) next
  kept-push = record {
    slots_are = λ a s h. subst (λ (paths : List (List OpName)). IsSlot paths a s)
        (sym (ap paths_of nodes-push ∙ paths-push (nodes_of slots) slot.node)) (slots-push a s h);
    found = subst (λ (nodes : List Node). AreFound nodes next) (sym nodes-push) (record {
      each = each-push;
      only = λ node k h. only-push node k h (is_eq (child_order (child_of slot.node) (child_of node))) refl;
    });
    few =
        let one : length (slots ++ slot ∷ []) ≡ length slots + 1 = length-append slots (slot ∷ []) in
        let count : length (nodes_of slots) ≡ length slots = length-map slots (λ (s : Slot). s.node) in
        omega arith;
  }

-- the same nodes under the same keys
pub kept-same : (slots also : List Slot) (find next : Child → Option ℕ) → IsKept slots find → also ≡ slots → next ≡ find
    → IsKept also next
kept-same slots also find next kept same alike =
    subst (λ (s : List Slot). IsKept s next) (sym same) (subst (λ (f : Child → Option ℕ). IsKept slots f) (sym alike) kept)

-- the same, as it is read off the steps of putting a node
pub kept-put : (slots roomy longer : List Slot) (find next : Child → Option ℕ) (tree : List Node) (slot : Slot) (key : Child) (n : ℕ)
    → IsKept slots find → nodes_of slots ≡ tree → length tree < 2 ^ 32 - 1 → IsNew tree slot.node → IsSlotFor tree slot.node slot
    → roomy ≡ slots → longer ≡ roomy ++ slot ∷ [] → n ≡ length slots → key ≡ child_of slot.node → next key ≡ Some n
    → ((q : Child) → is_eq (child_order key q) ≡ false → next q ≡ find q) → IsKept longer next
kept-put slots roomy longer find next tree slot key n kept view few absent fits room long count key_is here others =
    let back : tree ≡ nodes_of slots = sym view in
    let few' : length (nodes_of slots) < 2 ^ 32 - 1 = subst (λ (t : List Node). length t < 2 ^ 32 - 1) back few in
    let absent' : IsNew (nodes_of slots) slot.node = subst (λ (t : List Node). IsNew t slot.node) back absent in
    let fits' : IsSlotFor (nodes_of slots) slot.node slot = subst (λ (t : List Node). IsSlotFor t slot.node slot) back fits in
    let number : n ≡ length (nodes_of slots) = count ∙ sym (length-map slots (λ (s : Slot). s.node)) in
    let here' : next (child_of slot.node) ≡ Some (length (nodes_of slots)) = ap next (sym key_is) ∙ here ∙ ap Some number in
    let others' : (q : Child) → is_eq (child_order (child_of slot.node) q) ≡ false → next q ≡ find q =
    subst (λ (k : Child). (q : Child) → is_eq (child_order k q) ≡ false → next q ≡ find q) key_is others in
    subst (λ (l : List Slot). IsKept l next) (sym (long ∙ ap (λ (l : List Slot). l ++ slot ∷ []) room))
    (kept-push slots find next slot kept few' absent' fits' here' others')

-- ---- what is kept of one more node
path-with : (tree : List Node) (node : Node) → get_or (paths_with tree node) (length tree) [] ≡ path_to (paths_of tree) node
path-with tree node = get_or_at (paths_of tree) (path_to (paths_of tree) node) [] [] (length tree) (length-paths tree)

pub slot-first : (tree : List Node) (node : Node) → node.under ≡ None
    → IsSlotFor tree node (record { node = node; depth = 1; jump = length tree })
slot-first tree node top =
    let path : get_or (paths_with tree node) (length tree) [] ≡ node.name ∷ [] =
    path-with tree node ∙ ap (λ (u : Option ℕ). path_above (paths_of tree) u ++ node.name ∷ []) top in
    record {
      node_is = refl;
      slot_is = record {
        earlier = subst (λ (u : Option ℕ). IfSome u (λ above. above < length tree)) (sym top) tt;
        depth_is = sym (ap length path);
        shallow = omega arith;
        jump_is = record {
          within = omega arith;
          prefix = prefix-refl (get_or (paths_with tree node) (length tree) []);
          nearer = λ h. let one : length (get_or (paths_with tree node) (length tree) []) ≡ 1 = ap length path in absurd (omega arith);
        };
      };
    }

pub slot-next : (tree : List Node) (node : Node) (above d jump : ℕ) → node.under ≡ Some above → above < length tree
    → d ≡ length (path_of tree above) → d ≤ above + 1 → jump < length tree → IsPrefix (path_of tree jump) (path_of tree above)
    → IsSlotFor tree node (record { node = node; depth = d + 1; jump = jump })
slot-next tree node above d jump under inside depth shallow before prefix =
    let path : get_or (paths_with tree node) (length tree) [] ≡ path_of tree above ++ node.name ∷ [] =
    path-with tree node ∙ ap (λ (u : Option ℕ). path_above (paths_of tree) u ++ node.name ∷ []) under in
    let count : length (get_or (paths_with tree node) (length tree) []) ≡ length (path_of tree above) + 1 =
    ap length path ∙ length-append (path_of tree above) (node.name ∷ []) in
    let kept : get_or (paths_with tree node) jump [] ≡ path_of tree jump =
    get_or_append_left (paths_of tree) (path_to (paths_of tree) node ∷ []) [] jump
    (subst (λ (n : ℕ). jump < n) (sym (length-paths tree)) before) in
    let jumped : length (get_or (paths_with tree node) jump []) ≡ length (path_of tree jump) = ap length kept in
    let no_longer = prefix-length (path_of tree jump) (path_of tree above) prefix in
    record {
      node_is = refl;
      slot_is = record {
        earlier = subst (λ (u : Option ℕ). IfSome u (λ above. above < length tree)) (sym under) inside;
        depth_is = omega arith;
        shallow = omega arith;
        jump_is = record {
          within = omega arith;
          prefix = subst (λ (p : List OpName). IsPrefix p (get_or (paths_with tree node) (length tree) [])) (sym kept)
              (subst (λ (q : List OpName). IsPrefix (path_of tree jump) q) (sym path)
              (prefix-trans (path_of tree jump) (path_of tree above) (path_of tree above ++ node.name ∷ []) prefix
              (prefix-left (path_of tree above) (node.name ∷ []))));
          nearer = λ h. omega arith;
        };
      };
    }

-- ---- what adding says of paths
pub path-found : (tree : List Node) (node : Node) (k : ℕ) → IsTree tree → slice_get tree k ≡ Some node
    → path_of tree k ≡ path_under tree node.under ++ node.name ∷ []
path-found tree node k is h = path-at tree k node h (is.earlier k node h)

pub path-put : (tree after : List Node) (node : Node) (k : ℕ) → k ≡ length tree → after ≡ tree ++ node ∷ []
    → path_of after k ≡ path_under tree node.under ++ node.name ∷ []
path-put tree after node k place longer =
    ap (λ (t : List Node). path_of t k) longer ∙ ap (λ (n : ℕ). path_of (tree ++ node ∷ []) n) place ∙ path-last tree node

pub paths-kept : (tree after : List Node) (node : Node) → after ≡ tree ++ node ∷ []
    → (k : ℕ) → k < length tree → path_of after k ≡ path_of tree k
paths-kept tree after node longer k h = ap (λ (t : List Node). path_of t k) longer ∙ path-kept tree node k h

pub paths-same : (tree after : List Node) → after ≡ tree → (k : ℕ) → k < length tree → path_of after k ≡ path_of tree k
paths-same tree after same k h = ap (λ (t : List Node). path_of t k) same

pub path-added : {E : Type 0} (r : Result ℕ E) (tree after : List Node) (node put : Node) → put ≡ node
    → IfOk r (λ k. (k ≡ length tree) × (after ≡ tree ++ put ∷ []))
    → IfOk r (λ k. path_of after k ≡ path_under tree node.under ++ node.name ∷ [])
path-added (Ok k) tree after node put same h =
    path-put tree after node k h.0 (h.1 ∙ ap (λ (n : Node). tree ++ n ∷ []) same)
path-added (Err e) tree after node put same h = tt

pub paths-added : {E : Type 0} (r : Result ℕ E) (tree after : List Node) (put : Node)
    → IfOk r (λ k. (k ≡ length tree) × (after ≡ tree ++ put ∷ [])) → OnErr r (after ≡ tree)
    → (k : ℕ) → k < length tree → path_of after k ≡ path_of tree k
paths-added (Ok n) tree after put h err = paths-kept tree after put h.1
paths-added (Err e) tree after put h err = paths-same tree after err

-- the node at the length of another path is that node exactly where the one path is a prefix of the other
pub prefix-tells : (tree : List Node) (a b n : ℕ) → IsTree tree → a < length tree → n < length tree
    → IsPrefix (path_of tree n) (path_of tree b) → length (path_of tree n) ≡ length (path_of tree a)
    → (n ≡ a → IsPrefix (path_of tree a) (path_of tree b)) × (IsPrefix (path_of tree a) (path_of tree b) → n ≡ a)
prefix-tells tree a b n is ha hn prefix same = (
  λ e. subst (λ (k : ℕ). IsPrefix (path_of tree k) (path_of tree b)) e prefix,
  λ h. one_node_a_path tree n a is hn ha (prefix-one (path_of tree n) (path_of tree a) (path_of tree b) prefix h same),
)
