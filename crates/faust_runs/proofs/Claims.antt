-- What clean runs promise of fork views and views.
use Rattle.std.proofs.Common.{◌≡◌, ◌↔◌, ◌<◌, ◌≤◌, ℕ, true, List, [], ◌∷◌, ◌++◌, Option, Some, None, refl, sym, ap, ◌∙◌, subst}
use Rattle.std.proofs.Math.Path.{fun_ext}
use Rattle.faust_types.specs.Clients.{IsClientCount}
use Rattle.faust_types.specs.Versions.{IsAtMost, Vector}
use Rattle.faust_types.specs.declared.config.Config.{Config}
use Rattle.faust_types.specs.declared.operation.OpName.{OpName}
use Rattle.faust_ustor.specs.Passed.{next_of}
use Rattle.faust_lists.specs.Lists.{count}
use Rattle.faust_lists.specs.Names.{AreDistinct, Has, name_of}
use Rattle.faust_lists.specs.Walks.{IsVersionOf}
use Rattle.faust_forks.specs.Books.{Done, find}
use Rattle.faust_forks.specs.Pasts.{Past, fork_of}
use Rattle.faust_names.specs.Histories.{History, IsCompleted, IsOperation, named}
use Rattle.faust_names.specs.Views.{IsPrefix, IsWeakForkLinearizable}
use Rattle.faust_names.specs.Chronicles.{IsChronicle}
use Rattle.faust_names.specs.ForkViews as forked
use Rattle.faust_names.proofs.Holding.{chronicle-from, views-hold}
use Rattle.faust_names.proofs.Known.{IsOwnFork, IsShown, done-shown, own_fork, shown}
use Rattle.faust_names.proofs.Telling.{fork_view-below, fork_view-completed, fork_view-gapless, fork_view-operations}
use Rattle.faust_names.proofs.Viewed.{listed-distinct}
use Rattle.faust_record.specs.Runs.{IsRun}
use Rattle.faust_record.specs.declared.entry.Entry.{Entry}
use Rattle.faust_premises.specs.Premises.{IsClean}
use Rattle.faust_runs.specs.ForkViews.{ForkView, HasForkView, IsLastOf, clients_back, fork_view, fork_views, found_view, names_of, version_by, version_of, view_of}
use Rattle.faust_runs.specs.Histories.{history_read}
use Rattle.faust_runs.specs.Ledgers.{ledger_of, past_with}
use Rattle.faust_runs.specs.Sound.{IsSoundLedger}
use Rattle.faust_runs.proofs.Ledgers.{along-run, sound-first}
use Rattle.faust_runs.proofs.Stepping.{IsPlayed, step-sound}
use Rattle.faust_runs.proofs.Reading.{IsReading, history-same, reading-first, reading-step}
use Rattle.faust_runs.proofs.Viewing.{AreAlike, AreViewsOf, IsAlike, all_of, fork_view-same, view-same, views-first, views-step}

-- All that is known of the ledger of entries.
pub record IsTold (config : Config) (entries : List Entry) (past : Past) : Type 0 where
  pub sound : IsSoundLedger config entries past
  pub reading : IsReading entries past
  pub views : AreViewsOf (fork_views config entries) past.book

pub told-step : (config : Config) (before : List Entry) (entry : Entry) (past : Past) → IsClientCount config.clients
    → IsPlayed config before entry → IsTold config before past
    → IsTold config (before ++ entry ∷ []) (past_with config past before entry)
told-step config before entry past count played h = record {
  sound = step-sound config before entry past count h.sound played;
  reading = reading-step config before entry past count h.sound played h.reading;
  views = views-step config before entry past count h.sound played h.views;
}

pub run-told : (config : Config) (entries : List Entry) → IsRun config entries → IsClean config entries
    → IsTold config entries (ledger_of config entries)
run-told config entries run clean =
    let count = run.config_in_range.clients_count in
    along-run config (IsTold config) entries run clean
    (λ front entry past played h. told-step config front entry past count played h)
    (record { sound = sound-first config count; reading = reading-first; views = views-first })

pub told-chronicle : (config : Config) (entries : List Entry) (past : Past) → IsTold config entries past
    → IsChronicle config.clients past.started past.book
told-chronicle config entries past h =
    chronicle-from config.clients past h.sound.ground.sound h.sound.answered
    (λ k t begun found. (h.sound.proper k t begun found).from_one)
    (λ k t begun found writes. (h.sound.proper k t begun found).own_register writes)

pub told-history : (config : Config) (entries : List Entry) (past : Past) → IsTold config entries past
    → history_read entries ≡ forked.history_of past.started past.book
told-history config entries past h = history-same entries past h.reading h.sound.proper

pub run-history : (config : Config) (entries : List Entry) → IsRun config entries → IsClean config entries
    → history_read entries ≡ forked.history_of (ledger_of config entries).started (ledger_of config entries).book
run-history config entries run clean = told-history config entries (ledger_of config entries) (run-told config entries run clean)

pub run-fork_view : (config : Config) (entries : List Entry) (a : OpName) → IsRun config entries → IsClean config entries
    → fork_view config entries a ≡ forked.fork_view (ledger_of config entries).book a
run-fork_view config entries a run clean =
    fork_view-same config entries (ledger_of config entries) a (run-told config entries run clean).views

pub run-view : (config : Config) (entries : List Entry) (i : ℕ) → IsRun config entries → IsClean config entries
    → view_of config entries i ≡ forked.view_of (ledger_of config entries).started (ledger_of config entries).book i
run-view config entries i run clean =
    let told = run-told config entries run clean in
    view-same config entries (ledger_of config entries) i told.reading told.views

-- What a completed operation is in the ledger.
pub record IsDone (config : Config) (entries : List Entry) (past : Past) (a : OpName) : Type 0 where
  pub done : Done
  pub found : find past.book a.client a.t ≡ Some done
  pub view : ForkView
  pub viewed : found_view (fork_views config entries) a ≡ Some view
  pub alike : IsAlike view done

done-by : (config : Config) (entries : List Entry) (past : Past) (a : OpName) (done : Done) (o : Option ForkView)
    → found_view (fork_views config entries) a ≡ o → find past.book a.client a.t ≡ Some done → AreAlike o (Some done)
    → IsDone config entries past a
done-by config entries past a done None is found alike = absurd alike
done-by config entries past a done (Some view) is found alike =
    record { done = done; found = found; view = view; viewed = is; alike = alike }

pub done-of : (config : Config) (entries : List Entry) (past : Past) (a : OpName) (done : Done) → IsTold config entries past
    → find past.book a.client a.t ≡ Some done → IsDone config entries past a
done-of config entries past a done h found =
    done-by config entries past a done (found_view (fork_views config entries) a) refl found
    (subst (AreAlike (found_view (fork_views config entries) a)) found (h.views.each a))

pub completed-done : (config : Config) (entries : List Entry) (past : Past) (a : OpName) → IsTold config entries past
    → IsCompleted (history_read entries) a → IsDone config entries past a
completed-done config entries past a h completed =
    let there : IsCompleted (forked.history_of past.started past.book) a =
    subst (λ (g : History). IsCompleted g a) (told-history config entries past h) completed in
    let is : IsShown past.book a there.finished = shown past.started past.book a there.finished there.completed in
    done-of config entries past a is.done h is.found

view-done : (config : Config) (entries : List Entry) (past : Past) (a : OpName) (view : ForkView) (p : Option Done)
    → found_view (fork_views config entries) a ≡ Some view → find past.book a.client a.t ≡ p → AreAlike (Some view) p
    → IsDone config entries past a
view-done config entries past a view None is found alike = absurd alike
view-done config entries past a view (Some done) is found alike =
    record { done = done; found = found; view = view; viewed = is; alike = alike }

pub viewed-done : (config : Config) (entries : List Entry) (past : Past) (a : OpName) (view : ForkView) → IsTold config entries past
    → found_view (fork_views config entries) a ≡ Some view → IsDone config entries past a
viewed-done config entries past a view h is =
    view-done config entries past a view (find past.book a.client a.t) is refl
    (subst (λ (o : Option ForkView). AreAlike o (find past.book a.client a.t)) is (h.views.each a))

-- A version is that of a completed operation.
record IsViewed (o : Option ForkView) (v : Vector) : Type 0 where
  view : ForkView
  is : o ≡ Some view
  version : next_of view.op.client view.reply ≡ v

version-viewed : (o : Option ForkView) (v : Vector) → version_by o ≡ Some v → IsViewed o v
version-viewed None v h = absurd (cc)
version-viewed (Some view) v h = record { view = view; is = refl; version = cc }

pub record IsDoneWith (config : Config) (entries : List Entry) (past : Past) (a : OpName) (v : Vector) : Type 0 where
  pub is : IsDone config entries past a
  pub version : is.done.version ≡ v

same-view : (o : Option ForkView) (x y : ForkView) → o ≡ Some x → o ≡ Some y → x ≡ y
same-view o x y h i = cc

pub version-done : (config : Config) (entries : List Entry) (past : Past) (a : OpName) (v : Vector) → IsTold config entries past
    → version_of config entries a ≡ Some v → IsDoneWith config entries past a v
version-done config entries past a v h is =
    let o = found_view (fork_views config entries) a in
    let viewed : IsViewed o v = version-viewed o v is in
    let there : IsDone config entries past a = viewed-done config entries past a viewed.view h viewed.is in
    record {
      is = there;
      version = sym there.alike.version
          ∙ ap (λ (view : ForkView). next_of view.op.client view.reply) (same-view o there.view viewed.view there.viewed viewed.is)
          ∙ viewed.version;
    }

pub done-names : (config : Config) (entries : List Entry) (past : Past) (a : OpName) → (h : IsDone config entries past a)
    → fork_view config entries a ≡ all_of h.done.fork
done-names config entries past a h = ap names_of h.viewed ∙ h.alike.names

-- fork views, of a run
pub run-operations : (config : Config) (entries : List Entry) (a b : OpName) → IsRun config entries → IsClean config entries
    → Has (fork_view config entries a) b → IsOperation (history_read entries) b
run-operations config entries a b run clean has =
    let past : Past = ledger_of config entries in
    let told = run-told config entries run clean in
    subst (λ (g : History). IsOperation g b) (sym (told-history config entries past told))
    (fork_view-operations config.clients past.started past.book a b (told-chronicle config entries past told)
    (subst (λ (l : List OpName). Has l b) (run-fork_view config entries a run clean) has))

pub run-once : (config : Config) (entries : List Entry) (a : OpName) → IsRun config entries → IsClean config entries
    → AreDistinct (fork_view config entries a)
run-once config entries a run clean =
    subst AreDistinct (sym (run-fork_view config entries a run clean))
    (listed-distinct (λ front. true) (fork_of (find (ledger_of config entries).book a.client a.t)))

pub run-gapless : (config : Config) (entries : List Entry) (a b : OpName) (s : ℕ) → IsRun config entries → IsClean config entries
    → Has (fork_view config entries a) b → 1 ≤ s → s ≤ b.t → Has (fork_view config entries a) (named b.client s)
run-gapless config entries a b s run clean has one le =
    let is = run-fork_view config entries a run clean in
    subst (λ (l : List OpName). Has l (named b.client s)) (sym is)
    (fork_view-gapless (ledger_of config entries).book a b s (subst (λ (l : List OpName). Has l b) is has) one le)

pub run-completed : (config : Config) (entries : List Entry) (a b c : OpName) → IsRun config entries → IsClean config entries
    → Has (fork_view config entries a) b → Has (fork_view config entries a) c → b.client ≡ c.client → b.t < c.t
    → IsCompleted (history_read entries) b × IsPrefix (fork_view config entries b) (fork_view config entries a)
run-completed config entries a b c run clean in_b in_c same later =
    let past : Past = ledger_of config entries in
    let told = run-told config entries run clean in
    let of_a = run-fork_view config entries a run clean in
    let of_b = run-fork_view config entries b run clean in
    let there = fork_view-completed config.clients past.started past.book a b c (told-chronicle config entries past told)
    (subst (λ (l : List OpName). Has l b) of_a in_b) (subst (λ (l : List OpName). Has l c) of_a in_c) same later in (
      subst (λ (g : History). IsCompleted g b) (sym (told-history config entries past told)) there.0,
      subst (λ (l : List OpName). IsPrefix l (fork_view config entries a)) (sym of_b)
          (subst (λ (l : List OpName). IsPrefix (forked.fork_view past.book b) l) (sym of_a) there.1),
    )

-- a completed operation is the last one of its fork view
pub run-last : (config : Config) (entries : List Entry) (a : OpName) → IsRun config entries → IsClean config entries
    → IsCompleted (history_read entries) a → IsLastOf (fork_view config entries a) a
run-last config entries a run clean completed =
    let past : Past = ledger_of config entries in
    let told = run-told config entries run clean in
    let is = completed-done config entries past a told completed in
    let own : IsOwnFork past.started past.book a.client a.t is.done.fork =
    own_fork config.clients past.started past.book a.client a.t is.done (told-chronicle config entries past told) is.found in
    record {
      before = all_of own.older;
      ends = done-names config entries past a is ∙ ap all_of own.fork
          ∙ ap (λ (t : ℕ). all_of own.older ++ named a.client t ∷ []) (sym own.number);
    }

pub run-viewed : (config : Config) (entries : List Entry) (a : OpName) → IsRun config entries → IsClean config entries
    → IsCompleted (history_read entries) a ↔ HasForkView config entries a
run-viewed config entries a run clean =
    let past : Past = ledger_of config entries in
    let told = run-told config entries run clean in (
      λ completed.
          let is = completed-done config entries past a told completed in
          record { view = is.view; found = is.viewed },
      λ h.
          let is = viewed-done config entries past a h.view told h.found in
          subst (λ (g : History). IsCompleted g a) (sym (told-history config entries past told))
          (done-shown past.started past.book a is.done is.found),
    )

-- the version of a completed operation is that of its fork view
back-snoc : (l : List OpName) (a : OpName) → clients_back (l ++ a ∷ []) ≡ a.client ∷ clients_back l
back-snoc [] a = refl
back-snoc (x ∷ l) a = ap (λ (w : List ℕ). w ++ x.client ∷ []) (back-snoc l a)

back-all : (w : List ℕ) → clients_back (all_of w) ≡ w
back-all [] = refl
back-all (k ∷ w) = back-snoc (all_of w) (name_of k w) ∙ ap (λ (u : List ℕ). k ∷ u) (back-all w)

pub run-version : (config : Config) (entries : List Entry) (a : OpName) (v : Vector) → IsRun config entries → IsClean config entries
    → version_of config entries a ≡ Some v → IsVersionOf config.clients v (clients_back (fork_view config entries a))
run-version config entries a v run clean is =
    let n = config.clients in
    let past : Past = ledger_of config entries in
    let told = run-told config entries run clean in
    let there = version-done config entries past a v told is in
    let done : Done = there.is.done in
    let fork : clients_back (fork_view config entries a) ≡ done.fork =
    ap clients_back (done-names config entries past a there.is) ∙ back-all done.fork in
    subst (λ (w : List ℕ). IsVersionOf n v w) (sym fork)
    (subst (λ (x : Vector). IsVersionOf n x done.fork) there.version
    (told.sound.ground.sound a.client a.t done there.is.found).version)

pub run-below : (config : Config) (entries : List Entry) (a b : OpName) (v x : Vector) → IsRun config entries → IsClean config entries
    → version_of config entries a ≡ Some v → version_of config entries b ≡ Some x
    → IsAtMost v x ↔ IsPrefix (fork_view config entries a) (fork_view config entries b)
run-below config entries a b v x run clean is_v is_x =
    let past : Past = ledger_of config entries in
    let told = run-told config entries run clean in
    let of_a = version-done config entries past a v told is_v in
    let of_b = version-done config entries past b x told is_x in
    let view_a = run-fork_view config entries a run clean in
    let view_b = run-fork_view config entries b run clean in
    let there = fork_view-below config.clients past a b of_a.is.done of_b.is.done told.sound.ground.free told.sound.ground.sound
    of_a.is.found of_b.is.found in (
      λ below.
          subst (λ (l : List OpName). IsPrefix l (fork_view config entries b)) (sym view_a)
          (subst (λ (l : List OpName). IsPrefix (forked.fork_view past.book a) l) (sym view_b)
          (there.0 (subst (λ (w : Vector). IsAtMost w of_b.is.done.version) (sym of_a.version)
          (subst (λ (w : Vector). IsAtMost v w) (sym of_b.version) below)))),
      λ front.
          subst (λ (w : Vector). IsAtMost w x) of_a.version
          (subst (λ (w : Vector). IsAtMost of_a.is.done.version w) of_b.version
          (there.1 (subst (λ (l : List OpName). IsPrefix l (forked.fork_view past.book b)) view_a
          (subst (λ (l : List OpName). IsPrefix (fork_view config entries a) l) view_b front)))),
    )

-- the views of all clients
pub run-views : (config : Config) (entries : List Entry) → IsRun config entries → IsClean config entries
    → IsWeakForkLinearizable config.clients (history_read entries) (view_of config entries)
run-views config entries run clean =
    let n = config.clients in
    let past : Past = ledger_of config entries in
    let told = run-told config entries run clean in
    let lists : forked.view_of past.started past.book ≡ view_of config entries =
    fun_ext (λ i. sym (view-same config entries past i told.reading told.views)) in
    subst (λ (g : History). IsWeakForkLinearizable n g (view_of config entries)) (sym (told-history config entries past told))
    (subst (λ (f : ℕ → List OpName). IsWeakForkLinearizable n (forked.history_of past.started past.book) f) lists
    (views-hold n past.started past.book (told-chronicle config entries past told)))
