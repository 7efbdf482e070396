-- What is kept while a record is read, and how it grows by a completion.
use Rattle.std.proofs.Common.{◌≡◌, ℕ, ◌+◌, ◌-◌, ◌*◌, ◌^◌, ◌<◌, ◌≤◌, cond, Bool, List, [], ◌∷◌, ◌++◌, Option, Some, None, length, take, refl, sym, ap, ◌∙◌, subst, length-append, arith}
use Rattle.std.specs.BTreeMap.{get}
use Rattle.std.specs.List.{slice_get}
use Rattle.std.specs.Ordering.{is_eq}
use Rattle.faust_types.specs.declared.config.Config.{Config}
use Rattle.faust_types.specs.declared.operation.OpName.{OpName}
use Rattle.faust_types.specs.declared.message.Reply.{Reply}
use Rattle.faust_types.specs.declared.message.Tuple.{Tuple}
use Rattle.faust_record.specs.Operations.{is_named}
use Rattle.faust_record.specs.declared.entry.Entry.{Entry}
use Rattle.faust_tree.specs.Trees.{Adds, path_of, path_under}
use Rattle.faust_tree.specs.declared.node.Node.{Node}
use Rattle.faust_runs.specs.ForkViews.{ForkView, fork_views, fork_views_behind, names_on, view_by, viewed_by, viewed_in}
use Rattle.faust_views.specs.Forks.{AreEnds}
use Rattle.faust_views.specs.Forests.{IsForest, found_end}
use Rattle.faust_views.specs.Grown.{Extends, IsReply, base_at}
use Rattle.faust_views.specs.Keys.{key_of, key_order}
use Rattle.faust_views.specs.declared.forest.Forest.{Forest}
use Rattle.faust_views.specs.declared.key.Key.{Key}
use Rattle.faust_views.proofs.EndsFound.{ends-grown, found-push}
use Rattle.faust_views.proofs.Growing.{extends-one}
use Rattle.faust_views.proofs.Keyed.{key-is}
use Rattle.faust_views.proofs.Noting.{take-at}
use Rattle.faust_views.proofs.Numbered.{length-names}

-- room for the nodes of a completion
pub room-left : (tree mid : List Node) (ends : List (OpName × ℕ)) (base place : Option ℕ) (reply : Reply)
    (pending : List Tuple) → IsReply reply → pending ≡ reply.pending → length tree ≤ 32 * length ends → length ends + 1 < 2 ^ 27
    → Extends tree mid base place (names_on reply.version.version [] pending) → length mid < 2 ^ 32 - 1
room-left tree mid ends base place reply pending is same few room grown =
    let count : length (names_on reply.version.version [] pending) ≡ length reply.pending =
    length-names reply.version.version [] pending ∙ ap length same in
    let few_pending = is.few_pending in
    let most = grown.few in
    omega arith

-- a completion more
found-grown : (old new : Forest) (op : OpName) (k : ℕ) (key : Key)
    → ((name : OpName) → get key_order old.places (key_of name) ≡ found_end old.ends name)
    → key ≡ key_of op → new.ends ≡ old.ends ++ (op, k) ∷ []
    → ((q : Key) → get key_order new.places q ≡ cond (is_eq (key_order key q)) (Some k) (get key_order old.places q))
    → (name : OpName) → get key_order new.places (key_of name) ≡ found_end new.ends name
found-grown old new op k key found key_is longer all name =
    all (key_of name)
    ∙ ap (λ (b : Bool). cond b (Some k) (get key_order old.places (key_of name)))
    (ap (λ (q : Key). is_eq (key_order q (key_of name))) key_is ∙ key-is op name)
    ∙ ap (λ (o : Option ℕ). cond (is_named op name) (Some k) o) (found name)
    ∙ sym (found-push old.ends op k name)
    ∙ ap (λ (l : List (OpName × ℕ)). found_end l name) (sym longer)

pub forest-grown : (old new : Forest) (views : List ForkView) (op : OpName) (reply : Reply) (pending : List Tuple)
    (mid : List Node) (base place : Option ℕ) (k : ℕ) (key : Key) → IsForest old views → IsReply reply
    → pending ≡ reply.pending → base ≡ base_at (λ name. get key_order old.places (key_of name)) reply
    → Extends old.tree mid base place (names_on reply.version.version [] pending)
    → Adds mid (record { under = place; name = op }) new.tree k → path_of new.tree k ≡ path_under mid place ++ op ∷ []
    → ((j : ℕ) → j < length mid → path_of new.tree j ≡ path_of mid j)
    → key ≡ key_of op → new.ends ≡ old.ends ++ (op, k) ∷ []
    → ((q : Key) → get key_order new.places q ≡ cond (is_eq (key_order key q)) (Some k) (get key_order old.places q))
    → IsForest new (views ++ view_by views op reply ∷ [])
forest-grown old new views op reply pending mid base place k key is reply_is pend base_is grown adds path kept key_is longer all =
    let names = names_on reply.version.version [] reply.pending in
    let places : OpName → Option ℕ = λ name. get key_order old.places (key_of name) in
    let grown_by : Extends old.tree mid (base_at places reply) place names =
    subst (λ (o : Option ℕ). Extends old.tree mid o place names) base_is
    (subst (λ (l : List Tuple). Extends old.tree mid base place (names_on reply.version.version [] l)) pend grown) in
    let whole = extends-one old.tree mid new.tree (base_at places reply) place names op k grown_by adds path kept in
    let count : length names ≡ length reply.pending = length-names reply.version.version [] reply.pending in
    let more : length (names ++ op ∷ []) ≡ length names + 1 = length-append names (op ∷ []) in
    let few_pending = reply_is.few_pending in
    let few = is.few in
    let most = whole.few in
    let ends_count : length new.ends ≡ length old.ends + 1 = ap length longer ∙ length-append old.ends ((op, k) ∷ []) in
    record {
      ends_are = subst (λ (ends : List (OpName × ℕ)). AreEnds new.tree ends (views ++ view_by views op reply ∷ [])) (sym longer)
          (ends-grown old.tree new.tree old.ends views places reply op k is.ends_are is.found whole);
      found = found-grown old new op k key is.found key_is longer all;
      few = omega arith;
    }

-- fork views entry by entry
behind-append : (config : Config) (views : List ForkView) (xs : List Entry) (e : Entry)
    → fork_views_behind config views (xs ++ e ∷ []) ≡ viewed_in config (fork_views_behind config views xs) e
behind-append config views [] e = refl
behind-append config views (x ∷ xs) e = behind-append config (viewed_in config views x) xs e

pub views-more : (config : Config) (entries : List Entry) (q : ℕ) (e : Entry) → slice_get entries q ≡ Some e
    → fork_views config (take (q + 1) entries) ≡ viewed_in config (fork_views config (take q entries)) e
views-more config entries q e h =
    ap (fork_views config) (take-at entries q e h) ∙ behind-append config [] (take q entries) e

pub viewed-none : (views : List ForkView) (reply : Option Reply) → viewed_by views reply None ≡ views
viewed-none views None = refl
viewed-none views (Some reply) = refl
