-- The ends of a tree and the fork views: the end that is found for a name is that of the fork view that is found for it.
use Rattle.std.proofs.Common.{◌≡◌, ◌==◌, ℕ, suc, ◌+◌, ◌-◌, ◌<◌, ◌≤◌, cond, Bool, true, false, List, [], ◌∷◌, ◌++◌, Option, Some, None, length, get_or, take, refl, sym, ap, ◌∙◌, subst, append_assoc, arith}
use Rattle.std.proofs.lemmas.Bool.{eq-eqb, ne_eqb}
use Rattle.std.proofs.lemmas.List.{take_more}
use Rattle.faust_types.specs.declared.operation.OpName.{OpName}
use Rattle.faust_types.specs.declared.message.Reply.{Reply}
use Rattle.faust_types.specs.Versions.{is_initial, timestamp_at}
use Rattle.faust_forks.specs.Books.{or_else}
use Rattle.faust_names.specs.Histories.{named}
use Rattle.faust_record.specs.Operations.{is_named}
use Rattle.faust_tree.specs.Trees.{IsUnder, path_of, path_under}
use Rattle.faust_tree.specs.declared.node.Node.{Node}
use Rattle.faust_runs.specs.ForkViews.{ForkView, base_names, found_view, last_view, names_of, names_on, view_by}
use Rattle.faust_views.specs.Forks.{AreEnds, IsEnd}
use Rattle.faust_views.specs.Forests.{found_end, last_end}
use Rattle.faust_views.specs.Grown.{Extends, base_at}

-- a node is the end of a fork view, and there is none exactly where there is no such view
pub data IsEndOf (tree : List Node) : Option ℕ → Option ForkView → Type 0 where
  no_end : IsEndOf tree None None
  an_end : (k : ℕ) (view : ForkView) → k < length tree → path_of tree k ≡ view.names → IsEndOf tree (Some k) (Some view)

either-end : (tree : List Node) (end later : Option ℕ) (view also : Option ForkView) → IsEndOf tree later also → IsEndOf tree end view
    → IsEndOf tree (or_else later end) (or_else also view)
either-end tree end later view also no_end is = is
either-end tree end later view also (an_end k v h same) is = an_end k v h same

chosen-end : (tree : List Node) (b c : Bool) (k : ℕ) (view : ForkView) → b ≡ c → k < length tree → path_of tree k ≡ view.names
    → IsEndOf tree (cond b (Some k) None) (cond c (Some view) None)
chosen-end tree true true k view same h path = an_end k view h path
chosen-end tree true false k view same h path = cc
chosen-end tree false true k view same h path = cc
chosen-end tree false false k view same h path = no_end

pub ends-found : (tree : List Node) (ends : List (OpName × ℕ)) (views : List ForkView) (name : OpName) → AreEnds tree ends views
    → IsEndOf tree (found_end ends name) (found_view views name)
ends-found tree [] [] name are = no_end
ends-found tree [] (view ∷ views) name are = absurd are
ends-found tree (end ∷ ends) [] name are = absurd are
ends-found tree (end ∷ ends) (view ∷ views) name are =
    either-end tree (cond (is_named end.0 name) (Some end.1) None) (found_end ends name)
    (cond (is_named view.op name) (Some view) None) (found_view views name)
    (ends-found tree ends views name are.1)
    (chosen-end tree (is_named end.0 name) (is_named view.op name) end.1 view
    (ap (λ (a : OpName). is_named a name) are.0.name_is) are.0.inside are.0.path_is)

pub ends-last : (tree : List Node) (ends : List (OpName × ℕ)) (views : List ForkView) (i : ℕ) → AreEnds tree ends views
    → IsEndOf tree (last_end ends i) (last_view views i)
ends-last tree [] [] i are = no_end
ends-last tree [] (view ∷ views) i are = absurd are
ends-last tree (end ∷ ends) [] i are = absurd are
ends-last tree (end ∷ ends) (view ∷ views) i are =
    either-end tree (cond (end.0.client == i) (Some end.1) None) (last_end ends i)
    (cond (view.op.client == i) (Some view) None) (last_view views i)
    (ends-last tree ends views i are.1)
    (chosen-end tree (end.0.client == i) (view.op.client == i) end.1 view
    (ap (λ (a : OpName). a.client == i) are.0.name_is) are.0.inside are.0.path_is)

pub end-inside : (tree : List Node) (end : Option ℕ) (view : Option ForkView) → IsEndOf tree end view → IsUnder tree end
end-inside tree end view no_end = tt
end-inside tree end view (an_end k v h same) = h

pub end-path : (tree : List Node) (end : Option ℕ) (view : Option ForkView) → IsEndOf tree end view → path_under tree end ≡ names_of view
end-path tree end view no_end = refl
end-path tree end view (an_end k v h same) = same

-- one more end
cond-or : {X : Type 0} (b : Bool) (x : X) (rest last : Option X) → or_else (cond b (Some x) rest) last ≡ cond b (Some x) (or_else rest last)
cond-or true x rest last = refl
cond-or false x rest last = refl

pub found-push : (ends : List (OpName × ℕ)) (op : OpName) (k : ℕ) (name : OpName)
    → found_end (ends ++ (op, k) ∷ []) name ≡ cond (is_named op name) (Some k) (found_end ends name)
found-push [] op k name = refl
found-push (end ∷ ends) op k name =
    ap (λ (o : Option ℕ). or_else o (cond (is_named end.0 name) (Some end.1) None)) (found-push ends op k name)
    ∙ cond-or (is_named op name) k (found_end ends name) (cond (is_named end.0 name) (Some end.1) None)

pub last-push : (ends : List (OpName × ℕ)) (end : OpName × ℕ) (i : ℕ)
    → last_end (ends ++ end ∷ []) i ≡ cond (end.0.client == i) (Some end.1) (last_end ends i)
last-push [] end i = refl
last-push (first ∷ ends) end i =
    ap (λ (o : Option ℕ). or_else o (cond (first.0.client == i) (Some first.1) None)) (last-push ends end i)
    ∙ cond-or (end.0.client == i) end.1 (last_end ends i) (cond (first.0.client == i) (Some first.1) None)

ends-push : (tree : List Node) (ends : List (OpName × ℕ)) (views : List ForkView) (op : OpName) (k : ℕ) (view : ForkView)
    → AreEnds tree ends views → IsEnd tree op k view → AreEnds tree (ends ++ (op, k) ∷ []) (views ++ view ∷ [])
ends-push tree [] [] op k view are is = (is, tt)
ends-push tree [] (v ∷ views) op k view are is = absurd are
ends-push tree (end ∷ ends) [] op k view are is = absurd are
ends-push tree (end ∷ ends) (v ∷ views) op k view are is = (are.0, ends-push tree ends views op k view are.1 is)

ends-kept : (tree after : List Node) (ends : List (OpName × ℕ)) (views : List ForkView)
    → ((k : ℕ) → k < length tree → path_of after k ≡ path_of tree k) → length tree ≤ length after
    → AreEnds tree ends views → AreEnds after ends views
ends-kept tree after [] [] kept longer are = tt
ends-kept tree after [] (view ∷ views) kept longer are = absurd are
ends-kept tree after (end ∷ ends) [] kept longer are = absurd are
ends-kept tree after (end ∷ ends) (view ∷ views) kept longer are =
    let inside = are.0.inside in (
      record {
        name_is = are.0.name_is;
        inside = omega arith;
        path_is = kept end.1 inside ∙ are.0.path_is;
      },
      ends-kept tree after ends views kept longer are.1,
    )

-- the place of a reply's version
base-end : (tree : List Node) (b : Bool) (end : Option ℕ) (view : Option ForkView) → IsEndOf tree end view
    → path_under tree (cond b None end) ≡ cond b [] (names_of view)
base-end tree true end view is = refl
base-end tree false end view is = end-path tree end view is

base-under : (tree : List Node) (b : Bool) (end : Option ℕ) → IsUnder tree end → IsUnder tree (cond b None end)
base-under tree true end h = tt
base-under tree false end h = h

pub base-inside : (tree : List Node) (ends : List (OpName × ℕ)) (views : List ForkView) (places : OpName → Option ℕ) (reply : Reply)
    → AreEnds tree ends views → ((name : OpName) → places name ≡ found_end ends name) → IsUnder tree (base_at places reply)
base-inside tree ends views places reply are same =
    let name = named reply.c (timestamp_at reply.version.version reply.c) in
    base-under tree (is_initial reply.version.version) (places name)
    (subst (λ (o : Option ℕ). IsUnder tree o) (sym (same name))
    (end-inside tree (found_end ends name) (found_view views name) (ends-found tree ends views name are)))

base-path : (tree : List Node) (ends : List (OpName × ℕ)) (views : List ForkView) (places : OpName → Option ℕ) (reply : Reply)
    → AreEnds tree ends views → ((name : OpName) → places name ≡ found_end ends name)
    → path_under tree (base_at places reply) ≡ base_names views reply
base-path tree ends views places reply are same =
    let name = named reply.c (timestamp_at reply.version.version reply.c) in
    base-end tree (is_initial reply.version.version) (places name) (found_view views name)
    (subst (λ (o : Option ℕ). IsEndOf tree o (found_view views name)) (sym (same name)) (ends-found tree ends views name are))

-- a fork view more
pub ends-grown : (tree after : List Node) (ends : List (OpName × ℕ)) (views : List ForkView) (places : OpName → Option ℕ) (reply : Reply)
    (op : OpName) (k : ℕ) → AreEnds tree ends views → ((name : OpName) → places name ≡ found_end ends name)
    → Extends tree after (base_at places reply) (Some k) (names_on reply.version.version [] reply.pending ++ op ∷ [])
    → AreEnds after (ends ++ (op, k) ∷ []) (views ++ view_by views op reply ∷ [])
ends-grown tree after ends views places reply op k are same grown =
    let names = names_on reply.version.version [] reply.pending in
    ends-push after ends views op k (view_by views op reply) (ends-kept tree after ends views grown.kept grown.longer are) (record {
      name_is = refl;
      inside = grown.inside;
      path_is = grown.path_is
          ∙ ap (λ (l : List OpName). l ++ (names ++ op ∷ [])) (base-path tree ends views places reply are same)
          ∙ sym (append_assoc (base_names views reply) names (op ∷ []));
    })

pub ends-count : (tree : List Node) (ends : List (OpName × ℕ)) (views : List ForkView) → AreEnds tree ends views
    → length ends ≡ length views
ends-count tree [] [] are = refl
ends-count tree [] (view ∷ views) are = absurd are
ends-count tree (end ∷ ends) [] are = absurd are
ends-count tree (end ∷ ends) (view ∷ views) are = ap suc (ends-count tree ends views are.1)

-- the last end of a client, looked for from the end
last-at : (ends : List (OpName × ℕ)) (i b : ℕ) (d : OpName × ℕ) → 0 < b → b ≤ length ends
    → last_end (take b ends) i
    ≡ cond ((get_or ends (b - 1) d).0.client == i) (Some (get_or ends (b - 1) d).1) (last_end (take (b - 1) ends) i)
last-at ends i b d some fits =
    let whole : b ≡ (b - 1) + 1 = omega arith in
    ap (λ (n : ℕ). last_end (take n ends) i) whole
    ∙ ap (λ (l : List (OpName × ℕ)). last_end l i) (take_more ends (b - 1) d (omega arith))
    ∙ last-push (take (b - 1) ends) (get_or ends (b - 1) d) i

pub last-there : (ends : List (OpName × ℕ)) (i b : ℕ) (d : OpName × ℕ) → 0 < b → b ≤ length ends
    → last_end ends i ≡ last_end (take b ends) i → (get_or ends (b - 1) d).0.client ≡ i
    → Some (get_or ends (b - 1) d).1 ≡ last_end ends i
last-there ends i b d some fits so_far same =
    sym (so_far ∙ last-at ends i b d some fits
    ∙ ap (λ (c : Bool). cond c (Some (get_or ends (b - 1) d).1) (last_end (take (b - 1) ends) i))
    (eq-eqb (get_or ends (b - 1) d).0.client i same))

pub last-before : (ends : List (OpName × ℕ)) (i b : ℕ) (d : OpName × ℕ) → 0 < b → b ≤ length ends
    → last_end ends i ≡ last_end (take b ends) i → ((get_or ends (b - 1) d).0.client ≡ i → ⊥)
    → (b - 1 ≤ length ends) × (last_end ends i ≡ last_end (take (b - 1) ends) i)
last-before ends i b d some fits so_far other = (
  omega arith,
  so_far ∙ last-at ends i b d some fits
      ∙ ap (λ (c : Bool). cond c (Some (get_or ends (b - 1) d).1) (last_end (take (b - 1) ends) i))
      (ne_eqb (get_or ends (b - 1) d).0.client i other),
)
