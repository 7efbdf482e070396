-- Fork views and the views of clients, read off a record: its replies, and the answers in its outcomes. The promise
-- that views are weak fork-linearizable and causal is made of these lists. They are lists of names of operations, the
-- first one first, and are defined of every record, clean or not.
use Rattle.std.specs.Prelude.{◌≡◌, ℕ, ◌==◌, ◌&&◌, ◌||◌, suc, ◌+◌, cond, Bool, true, false, List, [], ◌∷◌, ◌++◌, Option, Some, None}
use Rattle.faust_types.specs.Versions.{Vector, is_initial, timestamp_at}
use Rattle.faust_types.specs.declared.config.Config.{Config}
use Rattle.faust_types.specs.declared.operation.OpName.{OpName}
use Rattle.faust_types.specs.declared.operation.Answer.{Answer}
use Rattle.faust_types.specs.declared.message.Reply.{Reply}
use Rattle.faust_types.specs.declared.message.Tuple.{Tuple}
use Rattle.faust_ustor.specs.Passed.{next_of}
use Rattle.faust_agent.specs.Deeds.{reply_in}
use Rattle.faust_lists.specs.Lists.{count}
use Rattle.faust_forks.specs.Books.{or_else}
use Rattle.faust_names.specs.Histories.{named}
use Rattle.faust_names.specs.ForkViews.{is_writing}
use Rattle.faust_record.specs.Operations.{Started, is_named, operation_named}
use Rattle.faust_record.specs.declared.entry.Input.{Input}
use Rattle.faust_record.specs.declared.entry.Input.TheVariants as inputs
use Rattle.faust_record.specs.declared.entry.Entry.{Entry}

-- A completed operation, the reply that its client accepted for it, and its fork view: the names of the operations that
-- the client takes to have happened up to it, in order.
pub record ForkView : Type 0 where
  pub op : OpName
  pub reply : Reply
  pub names : List OpName

-- The fork view of an operation among these, if it is there. The last one with the name counts.
abbrev pub found_view : List ForkView → OpName → Option ForkView
found_view [] a = None
found_view (view ∷ rest) a = or_else (found_view rest a) (cond (is_named view.op a) (Some view) None)

abbrev pub names_of : Option ForkView → List OpName
names_of None = []
names_of (Some view) = view.names

-- The fork view that the version of a reply stands for: nothing where it is initial, else that of the operation of the
-- reply's client c that it counts last.
abbrev pub base_names : List ForkView → Reply → List OpName
base_names views reply = cond (is_initial reply.version.version)
    []
    (names_of (found_view views (named reply.c (timestamp_at reply.version.version reply.c))))

-- The names of the operations of tuples, numbered by counting on from a version. The clients of the tuples before are
-- given, the last one first.
abbrev pub name_on : Vector → List ℕ → ℕ → OpName
name_on v before k = named k (suc (timestamp_at v k + count k before))

abbrev pub names_on : Vector → List ℕ → List Tuple → List OpName
names_on v before [] = []
names_on v before (tuple ∷ rest) = name_on v before tuple.client ∷ names_on v (tuple.client ∷ before) rest

-- The fork view of an operation that completes by a reply: that of the reply's version, then the operations of the
-- reply's tuples, then the operation itself.
abbrev pub names_by : List ForkView → OpName → Reply → List OpName
names_by views op reply = (base_names views reply ++ names_on reply.version.version [] reply.pending) ++ op ∷ []

abbrev pub view_by : List ForkView → OpName → Reply → ForkView
view_by views op reply = record { op = op; reply = reply; names = names_by views op reply }

-- The REPLY that came in an input.
abbrev pub reply_at : Config → Input → Option Reply
reply_at config (inputs.Write value) = None
reply_at config (inputs.Read register) = None
reply_at config (inputs.Reply bytes) = reply_in config bytes
reply_at config (inputs.Peer bytes) = None
reply_at config (inputs.Tick moment) = None
reply_at config (inputs.Arrive message) = None

-- The fork views after an entry: one more where an operation completes in it.
abbrev pub viewed_by : List ForkView → Option Reply → Option Answer → List ForkView
viewed_by views None answer = views
viewed_by views (Some reply) None = views
viewed_by views (Some reply) (Some answer) = views ++ view_by views answer.op.name reply ∷ []

abbrev pub viewed_in : Config → List ForkView → Entry → List ForkView
viewed_in config views entry = viewed_by views (reply_at config entry.input) entry.outcome.answer

-- The fork views of all completed operations, in the order in which they completed.
abbrev pub fork_views_behind : Config → List ForkView → List Entry → List ForkView
fork_views_behind config views [] = views
fork_views_behind config views (entry ∷ rest) = fork_views_behind config (viewed_in config views entry) rest

abbrev pub fork_views : Config → List Entry → List ForkView
fork_views config entries = fork_views_behind config [] entries

-- The fork view of an operation; nothing where it didn't complete.
abbrev pub fork_view : Config → List Entry → OpName → List OpName
fork_view config entries a = names_of (found_view (fork_views config entries) a)

-- The version of a completed operation: the one that its client made of the reply.
abbrev pub version_by : Option ForkView → Option Vector
version_by None = None
version_by (Some view) = Some (next_of view.op.client view.reply)

abbrev pub version_of : Config → List Entry → OpName → Option Vector
version_of config entries a = version_by (found_view (fork_views config entries) a)

-- The fork view of the last completed operation of client i, if it completed any.
abbrev pub last_view : List ForkView → ℕ → Option ForkView
last_view [] i = None
last_view (view ∷ rest) i = or_else (last_view rest i) (cond (view.op.client == i) (Some view) None)

-- Two lists have the same names.
abbrev pub are_same : List OpName → List OpName → Bool
are_same [] [] = true
are_same [] (b ∷ m) = false
are_same (a ∷ l) [] = false
are_same (a ∷ l) (b ∷ m) = is_named a b && are_same l m

-- The operation is a write.
abbrev pub is_write : Option Started → Bool
is_write None = false
is_write (Some started) = is_writing started.order.kind

-- The operation completed, and its own fork view is this one.
abbrev pub has_names : Option ForkView → List OpName → Bool
has_names None names = false
has_names (Some view) names = are_same view.names names

-- An operation stays in a view: it is a write, or it completed and its own fork view is the front that ends with it. What
-- stands before it in the fork view is given.
abbrev pub stays : List Entry → List ForkView → List OpName → OpName → Bool
stays entries views before a = is_write (operation_named entries a) || has_names (found_view views a) (before ++ a ∷ [])

-- What a test keeps of names behind others.
abbrev pub kept_behind : (List OpName → OpName → Bool) → List OpName → List OpName → List OpName
kept_behind keep before [] = []
kept_behind keep before (a ∷ rest) =
    cond (keep before a) (a ∷ kept_behind keep (before ++ a ∷ []) rest) (kept_behind keep (before ++ a ∷ []) rest)

-- The view of client i: what stays of the fork view of its last completed operation; nothing where it completed nothing.
abbrev pub view_of : Config → List Entry → ℕ → List OpName
view_of config entries i =
    let views = fork_views config entries in
    kept_behind (stays entries views) [] (names_of (last_view views i))

-- The clients of operations, the last one first.
abbrev pub clients_back : List OpName → List ℕ
clients_back [] = []
clients_back (a ∷ l) = clients_back l ++ a.client ∷ []

-- The operation is the last one of the list.
pub record IsLastOf (l : List OpName) (a : OpName) : Type 0 where
  pub before : List OpName
  pub ends : l ≡ before ++ a ∷ []

-- The operation has a fork view: its client accepted a reply for it.
pub record HasForkView (config : Config) (entries : List Entry) (a : OpName) : Type 0 where
  pub view : ForkView
  pub found : found_view (fork_views config entries) a ≡ Some view
