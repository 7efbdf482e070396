-- Fork views read off replies and answers are those of the ledger's forks.
use Rattle.std.proofs.Common.{◌≡◌, ◌==◌, ◌&&◌, ◌||◌, ◌+◌, ◌<◌, ◌≤◌, ℕ, suc, max, Bool, true, false, cond, List, [], ◌∷◌, ◌++◌, Option, Some, None, refl, sym, ap, ◌∙◌, subst, inl, inr, arith, append_assoc}
use Rattle.std.specs.List.{AllByRecursion}
use Rattle.std.specs.Str.{bytes_eq}
use Rattle.std.proofs.lemmas.Bool.{and_from, and_parts, cases_eq, cases_lt, cond-true, cond-false, eq-eqb, eqb-true, ne_eqb}
use Rattle.std.proofs.lemmas.List.{append-nil}
use Rattle.std.proofs.lemmas.Slice.Eq.{bytes_eq-Decides}
use Rattle.faust_types.specs.Clients.{IsClientCount}
use Rattle.faust_types.specs.Ranges.{IsTupleFor}
use Rattle.faust_types.specs.Versions.{Vector, is_initial, timestamp_at}
use Rattle.faust_types.specs.declared.config.Config.{Config}
use Rattle.faust_types.specs.declared.operation.OpName.{OpName}
use Rattle.faust_types.specs.declared.message.Reply.{Reply}
use Rattle.faust_types.specs.declared.message.Tuple.{Tuple}
use Rattle.faust_ustor.specs.Passed.{clients_after, next_of}
use Rattle.faust_agent.specs.State.{version_at}
use Rattle.faust_agent.specs.declared.client.Client.{Client}
use Rattle.faust_agent.specs.declared.deed.Completion.{Completion}
use Rattle.faust_lists.specs.Lists.{count}
use Rattle.faust_lists.specs.Names.{name_of}
use Rattle.faust_lists.specs.Walks.{IsVersionOf}
use Rattle.faust_lists.proofs.Tails.{count-append, tail-antisym}
use Rattle.faust_forks.specs.Books.{Begun, Done, find, find_begun, or_else}
use Rattle.faust_forks.specs.Books as books
use Rattle.faust_forks.specs.Pasts.{Past, base_of, done_at, fork_of}
use Rattle.faust_forks.specs.Forks.{IsGround, IsOwn}
use Rattle.faust_forks.proofs.Completing.{IsReached, reached}
use Rattle.faust_forks.proofs.Found.{found-none}
use Rattle.faust_names.specs.Histories.{named}
use Rattle.faust_names.specs.ForkViews.{has_fork, is_kept, is_writing, last_fork, last_number, listed}
use Rattle.faust_names.specs.ForkViews as forked
use Rattle.faust_names.specs.Views.{IsPrefix}
use Rattle.faust_names.proofs.ForkNames.{all-tail}
use Rattle.faust_names.proofs.Last.{last-is}
use Rattle.faust_names.proofs.Snocs.{prefix-refl}
use Rattle.faust_record.specs.Operations.{Started, is_named, operation_named}
use Rattle.faust_record.specs.declared.entry.Entry.{Entry}
use Rattle.faust_record.proofs.Own.{kept-append}
use Rattle.faust_premises.specs.Premises.{hashed_inputs}
use Rattle.faust_runs.specs.ForkViews.{ForkView, are_same, base_names, fork_view, fork_views, fork_views_behind, found_view, has_names, is_write, kept_behind, last_view, names_of, names_on, reply_at, stays, view_by, view_of, viewed_by, viewed_in}
use Rattle.faust_runs.specs.Histories.{begun_as}
use Rattle.faust_runs.specs.Ledgers.{client_after, hashing, past_with}
use Rattle.faust_runs.specs.Sound.{IsSoundLedger}
use Rattle.faust_runs.proofs.Options.{or_else-none, same-test}
use Rattle.faust_runs.proofs.Completions.{IsFinish}
use Rattle.faust_runs.proofs.Stepping.{IsPlayed, is-coming}
use Rattle.faust_runs.proofs.Changes.{Closes, answer_to, closes, closes_none, entry-closes}
use Rattle.faust_runs.proofs.Reading.{IsReading, or_else-along}

-- the names of all operations of a fork
abbrev pub all_of : List ℕ → List OpName
all_of w = listed (λ front. true) w

-- One more fork view.
pub found-snoc : (views : List ForkView) (x : ForkView) (a : OpName)
    → found_view (views ++ x ∷ []) a ≡ or_else (cond (is_named x.op a) (Some x) None) (found_view views a)
found-snoc [] x a = sym (or_else-none (cond (is_named x.op a) (Some x) None))
found-snoc (view ∷ rest) x a =
    let here : Option ForkView = cond (is_named view.op a) (Some view) None in
    ap (λ (o : Option ForkView). or_else o here) (found-snoc rest x a)
    ∙ or_else-along (cond (is_named x.op a) (Some x) None) (found_view rest a) here

pub last-snoc : (views : List ForkView) (x : ForkView) (i : ℕ)
    → last_view (views ++ x ∷ []) i ≡ or_else (cond (x.op.client == i) (Some x) None) (last_view views i)
last-snoc [] x i = sym (or_else-none (cond (x.op.client == i) (Some x) None))
last-snoc (view ∷ rest) x i =
    let here : Option ForkView = cond (view.op.client == i) (Some view) None in
    ap (λ (o : Option ForkView). or_else o here) (last-snoc rest x i)
    ∙ or_else-along (cond (x.op.client == i) (Some x) None) (last_view rest i) here

views-append : (config : Config) (views : List ForkView) (xs ys : List Entry)
    → fork_views_behind config views (xs ++ ys) ≡ fork_views_behind config (fork_views_behind config views xs) ys
views-append config views [] ys = refl
views-append config views (x ∷ xs) ys = views-append config (viewed_in config views x) xs ys

-- A fork view is that of a completion.
pub record IsAlike (view : ForkView) (done : Done) : Type 0 where
  pub names : view.names ≡ all_of done.fork
  pub version : next_of view.op.client view.reply ≡ done.version

abbrev pub AreAlike : Option ForkView → Option Done → Type 0
AreAlike None None = Unit {0}
AreAlike None (Some done) = ⊥
AreAlike (Some view) None = ⊥
AreAlike (Some view) (Some done) = IsAlike view done

pub alike-names : (o : Option ForkView) (p : Option Done) → AreAlike o p → names_of o ≡ all_of (fork_of p)
alike-names None None h = refl
alike-names None (Some done) h = absurd h
alike-names (Some view) None h = absurd h
alike-names (Some view) (Some done) h = h.names

-- Fork views are those of a book, and of each client the last one is that of its last completion.
pub record AreViewsOf (views : List ForkView) (book : List Done) : Type 0 where
  pub each : (a : OpName) → AreAlike (found_view views a) (find book a.client a.t)
  pub lasts : (i : ℕ) → last_view views i ≡ found_view views (named i (last_number book i))

pub views-first : AreViewsOf [] []
views-first = record { each = λ a. tt; lasts = λ i. refl }

-- the names of a reply's version
names-cond : (b : Bool) (w : List ℕ) → cond b [] (all_of w) ≡ all_of (cond b [] w)
names-cond true w = refl
names-cond false w = refl

base-alike : (views : List ForkView) (book : List Done) (reply : Reply) → AreViewsOf views book
    → base_names views reply ≡ all_of (base_of book reply)
base-alike views book reply alike =
    let t : ℕ = timestamp_at reply.version.version reply.c in
    ap (λ (l : List OpName). cond (is_initial reply.version.version) [] l)
    (alike-names (found_view views (named reply.c t)) (find book reply.c t) (alike.each (named reply.c t)))
    ∙ names-cond (is_initial reply.version.version) (fork_of (find book reply.c t))

-- the names of the tuples' operations
tuples-named : (n : ℕ) (v : Vector) (base u : List ℕ) (tuples : List Tuple) → IsVersionOf n v base
    → AllByRecursion (IsTupleFor n) tuples
    → all_of (clients_after (u ++ base) tuples) ≡ all_of (u ++ base) ++ names_on v u tuples
tuples-named n v base u [] version range = sym (append-nil (all_of (u ++ base)))
tuples-named n v base u (tuple ∷ rest) version range =
    let k : ℕ = tuple.client in
    let number : suc (count k (u ++ base)) ≡ suc (timestamp_at v k + count k u) =
    omega (arith, count-append k u base, version.timestamps k range.0.client_in_range) in
    tuples-named n v base (k ∷ u) rest version range.1
    ∙ append_assoc (all_of (u ++ base)) (name_of k (u ++ base) ∷ []) (names_on v (k ∷ u) rest)
    ∙ ap (λ (t : ℕ). all_of (u ++ base) ++ (named k t ∷ names_on v (k ∷ u) rest)) number

-- an operation that completes
finish-alike : (config : Config) (more : Past) (me : ℕ) (st : Client) (entry : Entry) (done : Completion) (reply : Reply)
    (views : List ForkView) → IsGround config.clients more → IsFinish config more me st entry.input done reply
    → AreViewsOf views more.book → IsAlike (view_by views done.op.name reply) (done_at more me done.op reply)
finish-alike config more me st entry done reply views ground h alike =
    let n = config.clients in
    let own = version_at st me in
    let base : List ℕ = base_of more.book reply in
    let w : List ℕ = clients_after base reply.pending in
    let at : IsReached n more me own reply w = reached n more config.key me own done.op reply ground h.accepted in
    let v : Vector = reply.version.version in
    let along : all_of w ≡ base_names views reply ++ names_on v [] reply.pending =
    tuples-named n v base [] reply.pending at.base.version h.accepted.reply_in_range.pending_in_range
    ∙ ap (λ (l : List OpName). l ++ names_on v [] reply.pending) (sym (base-alike views more.book reply alike)) in
    let number : suc (count me w) ≡ done.op.name.t = omega (arith, at.counted, h.accepted.pending.number) in
    let name : name_of me w ≡ done.op.name =
    ap (λ (t : ℕ). named me t) number ∙ ap (λ (k : ℕ). named k done.op.name.t) (sym h.held.pending.own_name) in
    record {
      names = sym (ap (λ (a : OpName). all_of w ++ a ∷ []) name ∙ ap (λ (l : List OpName). l ++ done.op.name ∷ []) along);
      version = ap (λ (k : ℕ). next_of k reply) h.held.pending.own_name;
    }

alike-step : (b : Bool) (o : Option ForkView) (p : Option Done) (x : ForkView) (added : Done) → AreAlike o p → (b ≡ true → p ≡ None)
    → IsAlike x added → AreAlike (or_else (cond b (Some x) None) o) (or_else p (cond b (Some added) None))
alike-step true o None x added old fresh here = here
alike-step true o (Some done) x added old fresh here = absurd (found-none (Some done) done (fresh refl) refl)
alike-step false o None x added old fresh here = old
alike-step false o (Some done) x added old fresh here = old

-- the last number of a client is at most that of its own version
last-below : (n : ℕ) (book : List Done) (me : ℕ) (own : Vector) → IsOwn n book me own → last_number book me ≤ timestamp_at own me
last-below n book me own owned =
    elim (last-is book me) [
      | inl none ↦ omega (arith, none)
      | inr there ↦
          elim (cases_lt (timestamp_at own me) (last_number book me)) [
            | inl above ↦
                let none : find book me (last_number book me) ≡ None = owned.last (last_number book me) above in
                absurd (found-none (find book me (last_number book me)) there.done none there.found)
            | inr within ↦ within
          ]
    ]

finish-last : (book : List Done) (added : Done) → last_number book added.client ≤ added.number
    → last_number (added ∷ book) added.client ≡ added.number
finish-last book added most =
    let here : last_number (added ∷ book) added.client ≡ max added.number (last_number book added.client) =
    cond-true _ _ _ (eq-eqb added.client added.client refl) in
    omega (arith, here, most)

finish-each : (n : ℕ) (past : Past) (me : ℕ) (own : Vector) (views : List ForkView) (x : ForkView) (added : Done)
    → AreViewsOf views past.book → IsOwn n past.book me own → timestamp_at own me < added.number → added.client ≡ me
    → x.op ≡ named me added.number → IsAlike x added
    → (a : OpName) → AreAlike (found_view (views ++ x ∷ []) a) (find (added ∷ past.book) a.client a.t)
finish-each n past me own views x added alike owned above client name here a =
    let test : Bool = books.is_named added.client added.number a.client a.t in
    let one : is_named x.op a ≡ test =
    ap (λ (b : OpName). is_named b a) name
    ∙ ap (λ (k : ℕ). (k == a.client) && (added.number == a.t)) (sym client) in
    let fresh : test ≡ true → find past.book a.client a.t ≡ None = λ h.
    let both = and_parts (added.client == a.client) (added.number == a.t) h in
    let same : a.client ≡ me = sym (eqb-true added.client a.client both.0) ∙ client in
    subst (λ (k : ℕ). find past.book k a.t ≡ None) (sym same)
    (owned.last a.t (omega (arith, above, eqb-true added.number a.t both.1))) in
    subst (λ (o : Option ForkView). AreAlike o (find (added ∷ past.book) a.client a.t)) (sym (found-snoc views x a))
    (subst (λ (b : Bool). AreAlike (or_else (cond b (Some x) None) (found_view views a)) (find (added ∷ past.book) a.client a.t)) (sym one)
    (alike-step test (found_view views a) (find past.book a.client a.t) x added (alike.each a) fresh here))

finish-lasts : (past : Past) (me : ℕ) (views : List ForkView) (x : ForkView) (added : Done) → AreViewsOf views past.book
    → last_number past.book added.client ≤ added.number → added.client ≡ me → x.op ≡ named me added.number
    → (i : ℕ) → last_view (views ++ x ∷ []) i ≡ found_view (views ++ x ∷ []) (named i (last_number (added ∷ past.book) i))
finish-lasts past me views x added alike most client name i =
    let number : ℕ = last_number (added ∷ past.book) i in
    let op_client : x.op.client ≡ me = ap (λ (b : OpName). b.client) name in
    let op_number : x.op.t ≡ added.number = ap (λ (b : OpName). b.t) name in
    elim (cases_eq x.op.client i) [
      | inl own ↦
          let is_own : added.client ≡ i = client ∙ sym op_client ∙ own in
          let last : number ≡ added.number =
          subst (λ (k : ℕ). last_number (added ∷ past.book) k ≡ added.number) is_own (finish-last past.book added most) in
          let here : is_named x.op (named i number) ≡ true =
          and_from (x.op.client == i) (x.op.t == number) (eq-eqb x.op.client i own) (eq-eqb x.op.t number (op_number ∙ sym last)) in
          last-snoc views x i
          ∙ ap (λ (b : Bool). or_else (cond b (Some x) None) (last_view views i)) (eq-eqb x.op.client i own)
          ∙ sym (found-snoc views x (named i number)
          ∙ ap (λ (b : Bool). or_else (cond b (Some x) None) (found_view views (named i number))) here)
      | inr other ↦
          let not_own : added.client ≡ i → ⊥ = λ same. other (op_client ∙ sym client ∙ same) in
          let last : number ≡ last_number past.book i = cond-false _ _ _ (ne_eqb added.client i not_own) in
          last-snoc views x i
          ∙ ap (λ (b : Bool). or_else (cond b (Some x) None) (last_view views i)) (ne_eqb x.op.client i other)
          ∙ alike.lasts i
          ∙ ap (λ (t : ℕ). found_view views (named i t)) (sym last)
          ∙ sym (found-snoc views x (named i number)
          ∙ ap (λ (b : Bool). or_else (cond (b && (x.op.t == number)) (Some x) None) (found_view views (named i number)))
          (ne_eqb x.op.client i other))
    ]

-- one more entry
viewed-none : (views : List ForkView) (reply : Option Reply) → viewed_by views reply None ≡ views
viewed-none views None = refl
viewed-none views (Some reply) = refl

views-closed : (config : Config) (past : Past) (inputs : List (List ℕ)) (later : Past) (me : ℕ) (st : Client) (entry : Entry)
    (views : List ForkView) → IsGround config.clients (hashing past inputs) → AreViewsOf views past.book
    → Closes config past (hashing past inputs) later me st entry → AreViewsOf (viewed_in config views entry) later.book
views-closed config past inputs later me st entry views ground alike (closes_none none same) =
    let as_before : viewed_in config views entry ≡ views =
    ap (viewed_by views (reply_at config entry.input)) none ∙ viewed-none views (reply_at config entry.input) in
    subst (λ (l : List ForkView). AreViewsOf l later.book) (sym as_before) (subst (AreViewsOf views) (sym same) alike)
views-closed config past inputs later me st entry views ground alike (closes done reply is finish grown) =
    let n = config.clients in
    let own = version_at st me in
    let x : ForkView = view_by views done.op.name reply in
    let added : Done = done_at past me done.op reply in
    let longer : viewed_in config views entry ≡ views ++ x ∷ [] =
    ap (viewed_by views (reply_at config entry.input)) is
    ∙ ap (λ (r : Option Reply). viewed_by views r (Some (answer_to done))) finish.came in
    let name : x.op ≡ named me added.number = ap (λ (k : ℕ). named k done.op.name.t) finish.held.pending.own_name in
    let above : timestamp_at own me < added.number = omega (arith, finish.accepted.pending.number) in
    let most : last_number past.book me ≤ timestamp_at own me = last-below n past.book me own finish.held.owned in
    let here : IsAlike x added = finish-alike config (hashing past inputs) me st entry done reply views ground finish alike in
    subst (λ (l : List ForkView). AreViewsOf l later.book) (sym longer)
    (subst (AreViewsOf (views ++ x ∷ [])) (sym grown) (record {
      each = finish-each n past me own views x added alike finish.held.owned above refl name here;
      lasts = finish-lasts past me views x added alike (omega (arith, most, above)) refl name;
    }))

pub views-step : (config : Config) (before : List Entry) (entry : Entry) (past : Past) → IsClientCount config.clients
    → IsSoundLedger config before past → IsPlayed config before entry → AreViewsOf (fork_views config before) past.book
    → AreViewsOf (fork_views config (before ++ entry ∷ [])) (past_with config past before entry).book
views-step config before entry past count sound played alike =
    let coming = is-coming config before entry past count sound played in
    subst (λ (l : List ForkView). AreViewsOf l (past_with config past before entry).book)
    (sym (views-append config [] before (entry ∷ [])))
    (views-closed config past (hashed_inputs config before entry) (past_with config past before entry) entry.client
    (client_after config entry.client before) entry (fork_views config before) coming.ground alike
    (entry-closes config before entry past count sound played))

-- Equal lists of names.
same-names : (a b : OpName) → is_named a b ≡ true → a ≡ b
same-names a b h =
    let both = and_parts (a.client == b.client) (a.t == b.t) h in
    ap (λ (k : ℕ). named k a.t) (eqb-true a.client b.client both.0) ∙ ap (λ (t : ℕ). named b.client t) (eqb-true a.t b.t both.1)

named-self : (a : OpName) → is_named a a ≡ true
named-self a = and_from (a.client == a.client) (a.t == a.t) (eq-eqb a.client a.client refl) (eq-eqb a.t a.t refl)

same-lists : (l m : List OpName) → are_same l m ≡ true → l ≡ m
same-lists [] [] h = refl
same-lists [] (b ∷ m) h = absurd (cc)
same-lists (a ∷ l) [] h = absurd (cc)
same-lists (a ∷ l) (b ∷ m) h =
    let both = and_parts (is_named a b) (are_same l m) h in
    ap (λ (c : OpName). c ∷ l) (same-names a b both.0) ∙ ap (λ (r : List OpName). b ∷ r) (same-lists l m both.1)

lists-self : (l : List OpName) → are_same l l ≡ true
lists-self [] = refl
lists-self (a ∷ l) = and_from (is_named a a) (are_same l l) (named-self a) (lists-self l)

all-same : (u w : List ℕ) → all_of u ≡ all_of w → u ≡ w
all-same u w h =
    tail-antisym u w (all-tail u w (subst (λ (l : List OpName). IsPrefix (all_of u) l) h (prefix-refl (all_of u))))
    (all-tail w u (subst (λ (l : List OpName). IsPrefix l (all_of u)) h (prefix-refl (all_of u))))

same-forks : (u w : List ℕ) → are_same (all_of u) (all_of w) ≡ bytes_eq u w
same-forks u w =
    same-test (are_same (all_of u) (all_of w)) (bytes_eq u w)
    (λ h. (bytes_eq-Decides u w).1 (all-same u w (same-lists (all_of u) (all_of w) h)))
    (λ h. subst (λ (l : List OpName). are_same (all_of u) l ≡ true) (ap all_of ((bytes_eq-Decides u w).0 h)) (lists-self (all_of u)))

-- What stays of fork views.
has-same : (o : Option ForkView) (p : Option Done) (w : List ℕ) → AreAlike o p → has_names o (all_of w) ≡ has_fork p w
has-same None None w h = refl
has-same None (Some done) w h = absurd h
has-same (Some view) None w h = absurd h
has-same (Some view) (Some done) w h = ap (λ (l : List OpName). are_same l (all_of w)) h.names ∙ same-forks done.fork w

write-same : (a : OpName) (o : Option Started) → is_write o ≡ forked.is_write (begun_as a o)
write-same a None = refl
write-same a (Some started) = refl

stays-same : (entries : List Entry) (views : List ForkView) (past : Past) (k : ℕ) (w : List ℕ) → IsReading entries past
    → AreViewsOf views past.book → stays entries views (all_of w) (name_of k w) ≡ is_kept past.started past.book (k ∷ w)
stays-same entries views past k w reading alike =
    let a : OpName = name_of k w in
    ap (λ (b : Bool). b || has_names (found_view views a) (all_of (k ∷ w)))
    (write-same a (operation_named entries a) ∙ ap forked.is_write (reading.began k (suc (count k w)) (omega arith)))
    ∙ ap (λ (b : Bool). forked.is_write (find_begun past.started k (suc (count k w))) || b)
    (has-same (found_view views a) (find past.book k (suc (count k w))) (k ∷ w) (alike.each a))

kept-snoc : (keep : List OpName → OpName → Bool) (before xs : List OpName) (a : OpName)
    → kept_behind keep before (xs ++ a ∷ []) ≡ kept_behind keep before xs ++ cond (keep (before ++ xs) a) (a ∷ []) []
kept-snoc keep before [] a = ap (λ (l : List OpName). cond (keep l a) (a ∷ []) []) (sym (append-nil before))
kept-snoc keep before (x ∷ xs) a =
    let last : List OpName = cond (keep (before ++ (x ∷ xs)) a) (a ∷ []) [] in
    kept-append (keep before x) x (kept_behind keep (before ++ x ∷ []) (xs ++ a ∷ [])) (kept_behind keep (before ++ x ∷ []) xs) last
    (kept-snoc keep (before ++ x ∷ []) xs a
    ∙ ap (λ (l : List OpName). kept_behind keep (before ++ x ∷ []) xs ++ cond (keep l a) (a ∷ []) []) (append_assoc before (x ∷ []) xs))

cond-end : (b : Bool) (l : List OpName) (a : OpName) → l ++ cond b (a ∷ []) [] ≡ cond b (l ++ a ∷ []) l
cond-end true l a = refl
cond-end false l a = append-nil l

kept-same : (entries : List Entry) (views : List ForkView) (past : Past) (w : List ℕ) → IsReading entries past
    → AreViewsOf views past.book
    → kept_behind (stays entries views) [] (all_of w) ≡ listed (is_kept past.started past.book) w
kept-same entries views past [] reading alike = refl
kept-same entries views past (k ∷ w) reading alike =
    let keep = stays entries views in
    let a : OpName = name_of k w in
    kept-snoc keep [] (all_of w) a
    ∙ ap (λ (l : List OpName). l ++ cond (keep (all_of w) a) (a ∷ []) []) (kept-same entries views past w reading alike)
    ∙ ap (λ (b : Bool). listed (is_kept past.started past.book) w ++ cond b (a ∷ []) []) (stays-same entries views past k w reading alike)
    ∙ cond-end (is_kept past.started past.book (k ∷ w)) (listed (is_kept past.started past.book) w) a

-- the views are those of the ledger
pub view-same : (config : Config) (entries : List Entry) (past : Past) (i : ℕ) → IsReading entries past
    → AreViewsOf (fork_views config entries) past.book → view_of config entries i ≡ forked.view_of past.started past.book i
view-same config entries past i reading alike =
    let views = fork_views config entries in
    let number : ℕ = last_number past.book i in
    ap (λ (o : Option ForkView). kept_behind (stays entries views) [] (names_of o)) (alike.lasts i)
    ∙ ap (kept_behind (stays entries views) [])
    (alike-names (found_view views (named i number)) (find past.book i number) (alike.each (named i number)))
    ∙ kept-same entries views past (last_fork past.book i) reading alike

pub fork_view-same : (config : Config) (entries : List Entry) (past : Past) (a : OpName)
    → AreViewsOf (fork_views config entries) past.book → fork_view config entries a ≡ forked.fork_view past.book a
fork_view-same config entries past a alike =
    alike-names (found_view (fork_views config entries) a) (find past.book a.client a.t) (alike.each a)
