-- What stays of the path of a node, from its end to the top.
use Rattle.std.proofs.Common.{◌≡◌, ◌==◌, ◌||◌, ℕ, ◌<◌, cond, Bool, true, false, List, [], ◌∷◌, ◌++◌, Option, Some, None, IfSome, length, reverse, refl, sym, ap, ◌∙◌, subst, append_assoc, arith}
use Rattle.std.specs.Cmp.{both_ways}
use Rattle.std.proofs.lemmas.List.{append-nil, reverse-append}
use Rattle.std.proofs.lemmas.Bool.{and_from, and_parts, eqb-true, eq-eqb, false≢true}
use Rattle.faust_types.specs.declared.operation.OpName.{OpName}
use Rattle.faust_names.specs.Histories.{named}
use Rattle.faust_record.specs.Operations.{is_named, operation_named}
use Rattle.faust_record.specs.declared.entry.Entry.{Entry}
use Rattle.faust_record.specs.Runs.{Run}
use Rattle.faust_tree.specs.Trees.{IsTree, IsUnder, path_of, path_under}
use Rattle.faust_tree.specs.declared.node.Node.{Node}
use Rattle.faust_tree.proofs.Paths.{one_node_a_path}
use Rattle.faust_runs.specs.ForkViews.{ForkView, are_same, fork_views, found_view, has_names, is_write, kept_behind, last_view, stays, view_of}
use Rattle.std.specs.BTreeMap.{get}
use Rattle.faust_views.specs.Forests.{IsSeenOf, last_end}
use Rattle.faust_views.specs.Keys.{key_of, key_order}
use Rattle.faust_views.specs.Noted.{AreNoted, is_at, stays_at}
use Rattle.faust_views.specs.declared.seen.Seen.{Seen}
use Rattle.faust_views.proofs.EndsFound.{IsEndOf, an_end, end-path, ends-found, ends-last, no_end}
use Rattle.faust_views.proofs.Noting.{noted-write}

-- what a test keeps of names with one more at their end
kept-choice : (b : Bool) (x : OpName) (rest front last : List OpName) → rest ≡ front ++ last
    → cond b (x ∷ rest) rest ≡ cond b (x ∷ front) front ++ last
kept-choice true x rest front last same = ap (λ (l : List OpName). x ∷ l) same
kept-choice false x rest front last same = same

pub kept-push : (keep : List OpName → OpName → Bool) (before names : List OpName) (a : OpName)
    → kept_behind keep before (names ++ a ∷ []) ≡ kept_behind keep before names ++ cond (keep (before ++ names) a) (a ∷ []) []
kept-push keep before [] a = ap (λ (l : List OpName). cond (keep l a) (a ∷ []) []) (sym (append-nil before))
kept-push keep before (b ∷ names) a =
    kept-choice (keep before b) b (kept_behind keep (before ++ b ∷ []) (names ++ a ∷ [])) (kept_behind keep (before ++ b ∷ []) names)
    (cond (keep (before ++ b ∷ names) a) (a ∷ []) [])
    (kept-push keep (before ++ b ∷ []) names a
    ∙ ap (λ (l : List OpName). kept_behind keep (before ++ b ∷ []) names ++ cond (keep l a) (a ∷ []) [])
    (append_assoc before (b ∷ []) names))

-- lists of names that are the same are equal
name-same : (a b : OpName) → is_named a b ≡ true → a ≡ b
name-same a b h =
    let parts = and_parts (a.client == b.client) (a.t == b.t) h in
    ap (λ (k : ℕ). named k a.t) (eqb-true a.client b.client parts.0) ∙ ap (λ (t : ℕ). named b.client t) (eqb-true a.t b.t parts.1)

name-self : (a : OpName) → is_named a a ≡ true
name-self a = and_from (a.client == a.client) (a.t == a.t) (eq-eqb a.client a.client refl) (eq-eqb a.t a.t refl)

same-names : (l m : List OpName) → are_same l m ≡ true → l ≡ m
same-names [] [] h = refl
same-names [] (b ∷ m) h = absurd (false≢true h)
same-names (a ∷ l) [] h = absurd (false≢true h)
same-names (a ∷ l) (b ∷ m) h =
    let parts = and_parts (is_named a b) (are_same l m) h in
    ap (λ (c : OpName). c ∷ l) (name-same a b parts.0) ∙ ap (λ (n : List OpName). b ∷ n) (same-names l m parts.1)

same-self : (l : List OpName) → are_same l l ≡ true
same-self [] = refl
same-self (a ∷ l) = and_from (is_named a a) (are_same l l) (name-self a) (same-self l)

-- a node is the own end of an operation exactly where its path is the own fork view
end-tells : (tree : List Node) (end : Option ℕ) (view : Option ForkView) (k : ℕ) → IsTree tree → k < length tree → IsEndOf tree end view
    → is_at end k ≡ has_names view (path_of tree k)
end-tells tree end view k is h no_end = refl
end-tells tree end also k is h (an_end m view inside path) =
    both_ways (m == k) (are_same view.names (path_of tree k))
    (λ e. let same : m ≡ k = eqb-true m k e in
    subst (λ (l : List OpName). are_same l (path_of tree k) ≡ true) (ap (path_of tree) (sym same) ∙ path) (same-self (path_of tree k)))
    (λ e. eq-eqb m k (one_node_a_path tree m k is inside h (path ∙ same-names view.names (path_of tree k) e)))

pub stays-tells : (kinds : List (List Bool)) (entries : List Entry) (tree : List Node) (views : List ForkView) (end : Option ℕ)
    (name : OpName) (k : ℕ) (front : List OpName) → AreNoted kinds entries → IsTree tree → k < length tree
    → IsEndOf tree end (found_view views name) → path_of tree k ≡ front ++ name ∷ []
    → stays_at kinds end name k ≡ stays entries views front name
stays-tells kinds entries tree views end name k front noted is h end_is path =
    ap (λ (b : Bool). b || is_at end k) (noted-write kinds entries name noted)
    ∙ ap (λ (b : Bool). is_write (operation_named entries name) || b)
    (end-tells tree end (found_view views name) k is h end_is ∙ ap (has_names (found_view views name)) path)

-- one name more is looked at
pub kept-there : (keep : List OpName → OpName → Bool) (all path front names : List OpName) (a : OpName) (b : Bool)
    → all ≡ kept_behind keep [] path ++ reverse names → path ≡ front ++ a ∷ [] → b ≡ keep front a → b ≡ true
    → all ≡ kept_behind keep [] front ++ reverse (names ++ a ∷ [])
kept-there keep all path front names a b same whole tells kept =
    same ∙ ap (λ (l : List OpName). kept_behind keep [] l ++ reverse names) whole
    ∙ ap (λ (l : List OpName). l ++ reverse names) (kept-push keep [] front a
    ∙ ap (λ (c : Bool). kept_behind keep [] front ++ cond c (a ∷ []) []) (sym tells ∙ kept))
    ∙ append_assoc (kept_behind keep [] front) (a ∷ []) (reverse names)
    ∙ ap (λ (l : List OpName). kept_behind keep [] front ++ l) (sym (reverse-append names (a ∷ [])))

pub kept-gone : (keep : List OpName → OpName → Bool) (all path front names : List OpName) (a : OpName) (b : Bool)
    → all ≡ kept_behind keep [] path ++ reverse names → path ≡ front ++ a ∷ [] → b ≡ keep front a → b ≡ false
    → all ≡ kept_behind keep [] front ++ reverse names
kept-gone keep all path front names a b same whole tells gone =
    same ∙ ap (λ (l : List OpName). kept_behind keep [] l ++ reverse names) whole
    ∙ ap (λ (l : List OpName). l ++ reverse names) (kept-push keep [] front a
    ∙ ap (λ (c : Bool). kept_behind keep [] front ++ cond c (a ∷ []) []) (sym tells ∙ gone)
    ∙ append-nil (kept_behind keep [] front))

-- the place above a node of a tree
pub under-above : (tree : List Node) (under : Option ℕ) (k : ℕ) → IfSome under (λ above. above < k) → k < length tree → IsUnder tree under
under-above tree None k h inside = tt
under-above tree (Some above) k h inside = omega arith

-- where a view begins, and what one node more gives
module _ (seen : Seen) (run : Run) (i : ℕ) (is : IsSeenOf run seen) where
  pub view-begins : (place : Option ℕ) → place ≡ last_end seen.forest.ends i
      → view_of run.config run.entries i
      ≡ kept_behind (stays run.entries (fork_views run.config run.entries)) [] (path_under seen.forest.tree place) ++ []
  view-begins place at =
      let views = fork_views run.config run.entries in
      ap (kept_behind (stays run.entries views) [])
      (sym (ap (path_under seen.forest.tree) at
      ∙ end-path seen.forest.tree (last_end seen.forest.ends i) (last_view views i)
      (ends-last seen.forest.tree seen.forest.ends views i is.forest_is.ends_are)))
      ∙ sym (append-nil _)

  tells : (name : OpName) (k : ℕ) (front : List OpName) (b : Bool) → IsTree seen.forest.tree → k < length seen.forest.tree
      → path_of seen.forest.tree k ≡ front ++ name ∷ []
      → b ≡ stays_at seen.writes.kinds.items (get key_order seen.forest.places (key_of name)) name k
      → b ≡ stays run.entries (fork_views run.config run.entries) front name
  tells name k front b tree h path same =
      let views = fork_views run.config run.entries in
      same ∙ stays-tells seen.writes.kinds.items run.entries seen.forest.tree views
      (get key_order seen.forest.places (key_of name)) name k front is.noted tree h
      (subst (λ (o : Option ℕ). IsEndOf seen.forest.tree o (found_view views name)) (sym (is.forest_is.found name))
      (ends-found seen.forest.tree seen.forest.ends views name is.forest_is.ends_are)) path

  pub view-there : (place : Option ℕ) (k : ℕ) (node : Node) (names pushed : List OpName) (b : Bool) → IsTree seen.forest.tree
      → place ≡ Some k → k < length seen.forest.tree
      → path_of seen.forest.tree k ≡ path_under seen.forest.tree node.under ++ node.name ∷ []
      → b ≡ stays_at seen.writes.kinds.items (get key_order seen.forest.places (key_of node.name)) node.name k
      → b ≡ true → pushed ≡ names ++ node.name ∷ []
      → view_of run.config run.entries i
      ≡ kept_behind (stays run.entries (fork_views run.config run.entries)) [] (path_under seen.forest.tree place) ++ reverse names
      → view_of run.config run.entries i
      ≡ kept_behind (stays run.entries (fork_views run.config run.entries)) [] (path_under seen.forest.tree node.under) ++ reverse pushed
  view-there place k node names pushed b tree at h path same kept longer so_far =
      let keep = stays run.entries (fork_views run.config run.entries) in
      kept-there keep (view_of run.config run.entries i) (path_under seen.forest.tree place) (path_under seen.forest.tree node.under)
      names node.name b so_far (ap (path_under seen.forest.tree) at ∙ path)
      (tells node.name k (path_under seen.forest.tree node.under) b tree h path same) kept
      ∙ ap (λ (l : List OpName). kept_behind keep [] (path_under seen.forest.tree node.under) ++ reverse l) (sym longer)

  pub view-gone : (place : Option ℕ) (k : ℕ) (node : Node) (names : List OpName) (b : Bool) → IsTree seen.forest.tree
      → place ≡ Some k → k < length seen.forest.tree
      → path_of seen.forest.tree k ≡ path_under seen.forest.tree node.under ++ node.name ∷ []
      → b ≡ stays_at seen.writes.kinds.items (get key_order seen.forest.places (key_of node.name)) node.name k
      → b ≡ false
      → view_of run.config run.entries i
      ≡ kept_behind (stays run.entries (fork_views run.config run.entries)) [] (path_under seen.forest.tree place) ++ reverse names
      → view_of run.config run.entries i
      ≡ kept_behind (stays run.entries (fork_views run.config run.entries)) [] (path_under seen.forest.tree node.under) ++ reverse names
  view-gone place k node names b tree at h path same gone so_far =
      kept-gone (stays run.entries (fork_views run.config run.entries)) (view_of run.config run.entries i)
      (path_under seen.forest.tree place) (path_under seen.forest.tree node.under)
      names node.name b so_far (ap (path_under seen.forest.tree) at ∙ path)
      (tells node.name k (path_under seen.forest.tree node.under) b tree h path same) gone
