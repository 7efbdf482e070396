-- A clean run up to one of its entries, and what of it stays to the end.
use Rattle.std.proofs.Common.{◌≡◌, ◌⊎◌, ℕ, List, [], ◌∷◌, ◌++◌, Some, append_assoc, refl, sym, ap, ◌∙◌, subst, inl, inr, arith}
use Rattle.std.proofs.lemmas.List.{append-nil}
use Rattle.faust_types.specs.Clients.{IsClient, IsClientCount}
use Rattle.faust_types.specs.Versions.{Vector, initial}
use Rattle.faust_types.specs.declared.config.Config.{Config}
use Rattle.faust_types.specs.declared.operation.OpName.{OpName}
use Rattle.faust_agent.specs.State.{completed_count, version_at}
use Rattle.faust_forks.specs.Books.{Done, find}
use Rattle.faust_forks.specs.Pasts.{IsLater, Past, first_past}
use Rattle.faust_forks.proofs.Found.{found-once}
use Rattle.faust_forks.proofs.Later.{later-along, later-hashed, later-self}
use Rattle.faust_forks.proofs.Members.{has-left}
use Rattle.faust_names.specs.Histories.{IsCompleted, named}
use Rattle.faust_record.specs.Runs.{IsRun}
use Rattle.faust_record.specs.declared.entry.Entry.{Entry}
use Rattle.faust_record.proofs.Runs.{run-front}
use Rattle.faust_premises.specs.Premises.{IsClean, hashed_inputs}
use Rattle.faust_premises.proofs.Fronts.{front-clean}
use Rattle.faust_runs.specs.ForkViews.{fork_view, version_by, version_of}
use Rattle.faust_runs.specs.Histories.{history_read}
use Rattle.faust_runs.specs.Ledgers.{client_after, hashing, ledger_of, past_behind, past_with}
use Rattle.faust_runs.specs.Sound.{IsSoundLedger}
use Rattle.faust_runs.proofs.Claims.{IsDone, IsDoneWith, IsTold, completed-done, done-names, done-of, run-told, told-step, version-done}
use Rattle.faust_runs.proofs.Ledgers.{along-behind, is-played}
use Rattle.faust_runs.proofs.Stepping.{IsPlayed, step-leads}
use Rattle.faust_runs.proofs.Viewing.{all_of}

past-append : (config : Config) (past : Past) (before xs ys : List Entry)
    → past_behind config past before (xs ++ ys) ≡ past_behind config (past_behind config past before xs) (before ++ xs) ys
past-append config past before [] ys = ap (λ (l : List Entry). past_behind config past l ys) (sym (append-nil before))
past-append config past before (x ∷ xs) ys =
    past-append config (past_with config past before x) (before ++ x ∷ []) xs ys
    ∙ ap (λ (l : List Entry). past_behind config (past_behind config (past_with config past before x) (before ++ x ∷ []) xs) l ys)
    (append_assoc before (x ∷ []) xs)

-- What one more entry leaves is later.
pub step-later : (config : Config) (before : List Entry) (entry : Entry) (past : Past) → IsClientCount config.clients
    → IsSoundLedger config before past → IsPlayed config before entry → IsLater past (past_with config past before entry)
step-later config before entry past count sound played =
    let inputs = hashed_inputs config before entry in
    later-along past (hashing past inputs) (past_with config past before entry)
    (later-hashed past (past.hashed ++ inputs) past.entry (λ x has. has-left past.hashed inputs x has) (omega arith))
    (step-leads config before entry past count sound played).grows

-- What is known of entries, of an earlier ledger and of theirs.
record IsOnward (config : Config) (first : Past) (entries : List Entry) (past : Past) : Type 0 where
  told : IsTold config entries past
  later : IsLater first past

-- A clean run is one up to each of its entries, and its ledger is later than the one there.
pub record IsUpTo (config : Config) (entries front : List Entry) : Type 0 where
  pub run : IsRun config front
  pub clean : IsClean config front
  pub told : IsTold config front (ledger_of config front)
  pub later : IsLater (ledger_of config front) (ledger_of config entries)

pub up-to : (config : Config) (entries front rest : List Entry) → IsRun config entries → IsClean config entries
    → entries ≡ front ++ rest → IsUpTo config entries front
up-to config entries front rest run clean split =
    let count = run.config_in_range.clients_count in
    let first : Past = ledger_of config front in
    let run_there : IsRun config front = run-front config front rest (subst (IsRun config) split run) in
    let clean_there : IsClean config front = front-clean config front rest (subst (IsClean config) split clean) in
    let told = run-told config front run_there clean_there in
    let onward : IsOnward config first entries (past_behind config first front rest) =
    along-behind config (IsOnward config first) entries front rest first
    (λ before back entry at. is-played config entries before back entry run clean at)
    (λ before entry past played h. record {
      told = told-step config before entry past count played h.told;
      later = later-along first past (past_with config past before entry) h.later
          (step-later config before entry past count h.told.sound played);
    })
    split (record { told = told; later = later-self first }) in
    let whole : past_behind config first front rest ≡ ledger_of config entries =
    sym (ap (ledger_of config) split ∙ past-append config first_past [] front rest) in
    record {
      run = run_there;
      clean = clean_there;
      told = told;
      later = subst (IsLater first) whole onward.later;
    }

-- The own version of a client is initial, or that of its last completed operation.
done-version : (config : Config) (entries : List Entry) (past : Past) (a : OpName) → (h : IsDone config entries past a)
    → version_of config entries a ≡ Some h.done.version
done-version config entries past a h = ap version_by h.viewed ∙ ap (λ (v : Vector). Some v) h.alike.version

pub own-version : (config : Config) (entries : List Entry) (i : ℕ) → IsRun config entries → IsClean config entries
    → IsClient config.clients i
    → (version_at (client_after config i entries) i ≡ initial config.clients)
    ⊎ (version_of config entries (named i (completed_count i (client_after config i entries)))
    ≡ Some (version_at (client_after config i entries) i))
own-version config entries i run clean within =
    let past : Past = ledger_of config entries in
    let told = run-told config entries run clean in
    let st = client_after config i entries in
    let a : OpName = named i (completed_count i st) in
    elim (told.sound.held i within).owned.held [
      | inl first ↦ inl first
      | inr last ↦
          let is : IsDone config entries past a = done-of config entries past a last.done told last.found in
          let same : is.done ≡ last.done = found-once (find past.book a.client a.t) is.done last.done is.found last.found in
          inr (done-version config entries past a is
          ∙ ap (λ (v : Vector). Some v) (ap (λ (d : Done). d.version) same ∙ last.fits_it))
    ]

-- The fork view and the version of an operation that completed stay as entries come.
done-later : (config : Config) (entries front : List Entry) (a : OpName) → IsTold config entries (ledger_of config entries)
    → IsLater (ledger_of config front) (ledger_of config entries) → (h : IsDone config front (ledger_of config front) a)
    → IsDoneWith config entries (ledger_of config entries) a h.done.version
done-later config entries front a told later h =
    let past : Past = ledger_of config entries in
    let found : find past.book a.client a.t ≡ Some h.done = later.done_kept a.client a.t h.done h.found in
    let is : IsDone config entries past a = done-of config entries past a h.done told found in
    record { is = is; version = ap (λ (d : Done). d.version) (found-once (find past.book a.client a.t) is.done h.done is.found found) }

pub view-stays : (config : Config) (front rest : List Entry) (a : OpName) → IsRun config (front ++ rest)
    → IsClean config (front ++ rest) → IsCompleted (history_read front) a
    → fork_view config (front ++ rest) a ≡ fork_view config front a
view-stays config front rest a run clean completed =
    let there = up-to config (front ++ rest) front rest run clean refl in
    let told = run-told config (front ++ rest) run clean in
    let past : Past = ledger_of config (front ++ rest) in
    let h : IsDone config front (ledger_of config front) a = completed-done config front (ledger_of config front) a there.told completed in
    let now = done-later config (front ++ rest) front a told there.later h in
    let found : find past.book a.client a.t ≡ Some h.done = there.later.done_kept a.client a.t h.done h.found in
    let same : now.is.done ≡ h.done = found-once (find past.book a.client a.t) now.is.done h.done now.is.found found in
    done-names config (front ++ rest) past a now.is
    ∙ ap (λ (d : Done). all_of d.fork) same
    ∙ sym (done-names config front (ledger_of config front) a h)

pub version-stays : (config : Config) (front rest : List Entry) (a : OpName) (v : Vector) → IsRun config (front ++ rest)
    → IsClean config (front ++ rest) → version_of config front a ≡ Some v → version_of config (front ++ rest) a ≡ Some v
version-stays config front rest a v run clean is =
    let there = up-to config (front ++ rest) front rest run clean refl in
    let told = run-told config (front ++ rest) run clean in
    let h = version-done config front (ledger_of config front) a v there.told is in
    let now = done-later config (front ++ rest) front a told there.later h.is in
    done-version config (front ++ rest) (ledger_of config (front ++ rest)) a now.is
    ∙ ap (λ (x : Vector). Some x) (now.version ∙ h.version)
