-- A version that its client made is initial or that of a completion, and so that of a history.
use Rattle.std.proofs.Common.{◌≡◌, ℕ, ◌<◌, true, false, List, [], ◌∷◌, Some, refl, sym, ap, ◌∙◌, subst, inl, inr, arith}
use Rattle.std.proofs.lemmas.Bool.{cases_Bool, cond-true, cond-false}
use Rattle.faust_types.specs.Clients.{IsClientCount}
use Rattle.faust_types.specs.Ranges.{IsKnownBy, IsVersionFor}
use Rattle.faust_types.specs.Versions.{Vector, initial, is_initial, timestamp_at}
use Rattle.faust_types.specs.declared.message.Known.{Known}
use Rattle.faust_types.proofs.Messages.{is_initial-initial}
use Rattle.faust_types.proofs.Order.{is_initial-means}
use Rattle.faust_ustor.specs.Checks.{is_known_right}
use Rattle.faust_lists.specs.Lists.{AreClients, EndsWith}
use Rattle.faust_lists.specs.Names.{Has}
use Rattle.faust_lists.specs.Walks.{IsVersionOf}
use Rattle.faust_lists.proofs.Fronts.{last_to-ended}
use Rattle.faust_lists.proofs.Versions.{IsVersionOf-initial, is_initial-cons}
use Rattle.faust_forks.specs.Books.{Done, AreDoneIn, find}
use Rattle.faust_forks.specs.Sources.{of_commit}
use Rattle.faust_forks.specs.Pairs.{AreMade, known_pairs}
use Rattle.faust_forks.specs.Pasts.{Past, fork_of, history_at}
use Rattle.faust_forks.specs.Forks.{IsBooked, IsGround, IsHistoryOf, IsOwn}
use Rattle.faust_forks.proofs.Found.{Completed-more, done-named}
use Rattle.faust_forks.proofs.Made.{known-made, made-commit}
use Rattle.faust_forks.proofs.Later.{later-self}
use Rattle.faust_forks.proofs.Settled.{fork-later, fork-nil}

pub booked-more : (book more : List Done) (k : ℕ) (v : Vector) → AreDoneIn book more → IsBooked book k v → IsBooked more k v
booked-more book more k v grows (inl is) = inl is
booked-more book more k v grows (inr came) = inr (Completed-more book more k (timestamp_at v k) (λ done. done.version ≡ v) grows came)

-- the own version is booked
pub own-booked : (n : ℕ) (book : List Done) (me : ℕ) (own : Vector) → IsClientCount n → IsOwn n book me own → IsBooked book me own
own-booked n book me own count h = elim h.held [
  | inl same ↦ inl (ap is_initial same ∙ is_initial-initial n count)
  | inr came ↦ inr came
]

-- so is a version whose tag by its client is right and isn't forged
pub known-booked : (n : ℕ) (past : Past) (key : List ℕ) (k : ℕ) (known : Known) → IsGround n past → IsKnownBy n k known
    → is_known_right key k known ≡ true → AreMade key past.made (known_pairs k known) → IsBooked past.book k known.version
known-booked n past key k known ground range right pairs = elim (cases_Bool (is_initial known.version)) [
  | inl is ↦ inl is
  | inr fresh ↦
      let has : Has past.made (of_commit k known.version) = made-commit n past.made k known.version ground.sources range.version_in_range
      (known-made key past.made k known pairs right fresh) in
      inr (ground.explained (of_commit k known.version) has)
]

history-initial : (n : ℕ) (past : Past) (k : ℕ) (v : Vector) → IsVersionFor n v → is_initial v ≡ true
    → IsHistoryOf n past past.entry k v []
history-initial n past k v range is =
    let same : v ≡ initial n = (is_initial-means v range.kept).0 is ∙ ap initial range.count in
    record {
      version = subst (λ (z : Vector). IsVersionOf n z []) (sym same) (IsVersionOf-initial n);
      fork = fork-nil n past past.entry;
      whole = refl;
    }

pub history-completed : (n : ℕ) (past : Past) (k t : ℕ) (v : Vector) (done : Done) → IsGround n past → find past.book k t ≡ Some done
    → done.version ≡ v → IsHistoryOf n past past.entry k v done.fork
history-completed n past k t v done ground found same =
    let sound = ground.sound k t done found in
    let named = done-named past.book k t done found in
    let ends : EndsWith k done.fork = subst (λ (z : ℕ). EndsWith z done.fork) named.is_client sound.ends in
    let older : done.entry < past.entry = ground.done_before k t done found in
    record {
      version = subst (λ (z : Vector). IsVersionOf n z done.fork) same sound.version;
      fork = fork-later n past past done.entry past.entry done.fork (later-self past) (omega (arith, older)) sound.fork;
      whole = last_to-ended k done.fork ends;
    }

ends-fresh : (n k : ℕ) (v : Vector) (w : List ℕ) → AreClients n w → EndsWith k w → IsVersionOf n v w → is_initial v ≡ false
ends-fresh n k v [] clients ends version = absurd ends
ends-fresh n k v (x ∷ w) clients ends version = is_initial-cons n v x w clients.0 version

-- a version of a completion isn't initial
pub completed-fresh : (n : ℕ) (past : Past) (k t : ℕ) (v : Vector) (done : Done) → IsGround n past → find past.book k t ≡ Some done
    → done.version ≡ v → is_initial v ≡ false
completed-fresh n past k t v done ground found same =
    let sound = ground.sound k t done found in
    ap is_initial (sym same) ∙ ends-fresh n done.client done.version done.fork sound.fork.clients sound.ends sound.version

-- what is booked is of a history
pub booked-history : (n : ℕ) (past : Past) (k : ℕ) (v : Vector) → IsGround n past → IsVersionFor n v → IsBooked past.book k v
    → IsHistoryOf n past past.entry k v (history_at past.book k v)
booked-history n past k v ground range (inl is) =
    let nothing : history_at past.book k v ≡ [] = cond-true (is_initial v) [] (fork_of (find past.book k (timestamp_at v k))) is in
    subst (λ (z : List ℕ). IsHistoryOf n past past.entry k v z) (sym nothing) (history-initial n past k v range is)
booked-history n past k v ground range (inr came) =
    let fresh = completed-fresh n past k (timestamp_at v k) v came.done ground came.found came.fits_it in
    let is_fork : history_at past.book k v ≡ came.done.fork =
    cond-false (is_initial v) [] (fork_of (find past.book k (timestamp_at v k))) fresh ∙ ap fork_of came.found in
    subst (λ (z : List ℕ). IsHistoryOf n past past.entry k v z) (sym is_fork)
    (history-completed n past k (timestamp_at v k) v came.done ground came.found came.fits_it)

-- what is shown as the version of client k is of a history
pub known-history : (n : ℕ) (past : Past) (key : List ℕ) (k : ℕ) (known : Known) → IsGround n past → IsKnownBy n k known
    → is_known_right key k known ≡ true → AreMade key past.made (known_pairs k known)
    → IsHistoryOf n past past.entry k known.version (history_at past.book k known.version)
known-history n past key k known ground range right pairs =
    booked-history n past k known.version ground range.version_in_range (known-booked n past key k known ground range right pairs)
