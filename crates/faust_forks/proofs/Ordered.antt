-- Versions are ordered as their forks are by being fronts, and the forks of one client go up.
use Rattle.std.proofs.Common.{◌≡◌, ◌↔◌, ℕ, ◌<◌, ◌≤◌, true, List, [], Some, sym, ap, ◌∙◌, subst, inl, inr, arith}
use Rattle.std.proofs.lemmas.Bool.{cases_lt, cond-true, cond-false, or_cases}
use Rattle.faust_types.specs.Clients.{IsClient}
use Rattle.faust_types.specs.Ranges.{IsVersionFor}
use Rattle.faust_types.specs.Versions.{is_initial, timestamp_at, Vector, IsAtMost, clients_of, is_at_most, is_comparable}
use Rattle.faust_types.proofs.Order.{is_at_most-means}
use Rattle.faust_hash.specs.Chain.{chain_of}
use Rattle.faust_lists.specs.Lists.{count, upto, last_to, AreAlong, EndsWith, IsTail}
use Rattle.faust_lists.specs.Walks.{IsFree, IsVersionOf}
use Rattle.faust_lists.proofs.Tails.{tail-nil, tail-antisym, tail-refl}
use Rattle.faust_lists.proofs.Fronts.{last_to-ended, last_to-tail, upto-ended, upto-tail}
use Rattle.faust_lists.proofs.Chains.{AreHashed-tail, chain_of-same}
use Rattle.faust_lists.proofs.Versions.{at_most-tail, comparable-along}
use Rattle.faust_forks.specs.Books.{Done, Completed, find}
use Rattle.faust_forks.specs.Pasts.{Past, fork_of, history_at}
use Rattle.faust_forks.specs.Forks.{IsBooked, IsGround, IsBook, IsFork, IsSettled}
use Rattle.faust_forks.proofs.Found.{done-named, found-once}
use Rattle.faust_forks.proofs.Booked.{booked-history, completed-fresh}
use Rattle.faust_forks.proofs.Settled.{ends-client, ends-counted}

-- What the book knows of a completion of client k: its fork ends with k and counts as many of k as its number says.
pub record IsOf (n k t : ℕ) (done : Done) : Type 0 where
  pub client : IsClient n k
  pub ends : EndsWith k done.fork
  pub counted : count k done.fork ≡ t
  pub some : 1 ≤ t

pub found-of : (n : ℕ) (past : Past) (k t : ℕ) (done : Done)
    → IsBook n past → find past.book k t ≡ Some done → IsOf n k t done
found-of n past k t done book_sound found =
    let sound = book_sound k t done found in
    let named = done-named past.book k t done found in
    let ends : EndsWith k done.fork = subst (λ (z : ℕ). EndsWith z done.fork) named.is_client sound.ends in
    let counted : count k done.fork ≡ t =
    subst (λ (z : ℕ). count z done.fork ≡ done.number) named.is_client sound.counted ∙ named.is_number in
    record {
      client = ends-client n k done.fork sound.fork.clients ends;
      ends = ends;
      counted = counted;
      some = omega (arith, counted, ends-counted k done.fork ends);
    }

-- a completion within a history, but not the last of its client there, has the front that ends with it as its fork,
-- whatever its digests say
pub front-within : (n : ℕ) (past : Past) (k t : ℕ) (done : Done) (w : List ℕ)
    → IsBook n past → find past.book k t ≡ Some done → IsSettled n past.book w → t < count k w → done.fork ≡ upto k t w
front-within n past k t done w book_sound found settled within =
    let of_k = found-of n past k t done book_sound found in
    let there : Completed past.book k t (λ done. done.fork ≡ upto k t w) = settled k t of_k.client of_k.some within in
    ap (λ (z : Done). z.fork) (found-once (find past.book k t) done there.done found there.found) ∙ there.fits_it

-- where the version of a completion is at most that of a history, its fork is a front of the history
pub tail-below : (n : ℕ) (past : Past) (k t entry : ℕ) (done : Done) (x : Vector)
    (w : List ℕ) → IsFree past.hashed → IsBook n past → find past.book k t ≡ Some done → IsFork n past entry w
    → IsVersionOf n x w → IsAtMost done.version x → IsTail done.fork w
tail-below n past k t entry done x w free book_sound found fork version below =
    let sound = book_sound k t done found in
    let of_k = found-of n past k t done book_sound found in
    let k_in : IsClient (clients_of done.version) k =
    record { from_one = of_k.client.from_one; to_n = omega (arith, of_k.client.to_n, sound.version.sized) } in
    let mine = sound.version.timestamps k of_k.client in
    let theirs = version.timestamps k of_k.client in
    let le : count k done.fork ≤ count k w = omega (arith, below.timestamps k k_in, mine, theirs) in
    elim (cases_lt t (count k w)) [
      | inl within ↦
          subst (λ (z : List ℕ). IsTail z w) (sym (front-within n past k t done w book_sound found fork.settled within))
          (upto-tail k t w)
      | inr at ↦
          let digest = below.digests k k_in (omega (arith, mine, theirs, le, at, of_k.counted)) in
          let chains : chain_of done.fork ≡ chain_of (last_to k w) =
          ap chain_of (sym (last_to-ended k done.fork of_k.ends)) ∙ sym (sound.version.digests k of_k.client)
          ∙ digest ∙ version.digests k of_k.client in
          let same : done.fork ≡ last_to k w = chain_of-same past.hashed done.fork (last_to k w) free sound.fork.chains
          (AreHashed-tail past.hashed (last_to k w) w fork.chains (last_to-tail k w)) chains in
          subst (λ (z : List ℕ). IsTail z w) (sym same) (last_to-tail k w)
    ]

-- of two completions: the version of one is at most that of the other exactly where its fork is a front of the other's
pub below-exactly : (n : ℕ) (past : Past) (j s k t : ℕ) (x y : Done) → IsFree past.hashed
    → IsBook n past → find past.book j s ≡ Some x → find past.book k t ≡ Some y
    → IsAtMost x.version y.version ↔ IsTail x.fork y.fork
below-exactly n past j s k t x y free book_sound in_x in_y =
    let a = book_sound j s x in_x in
    let b = book_sound k t y in_y in (
      λ below. tail-below n past j s y.entry x y.version y.fork free book_sound in_x b.fork b.version below,
      λ front. at_most-tail n x.version y.version x.fork y.fork a.version b.version front,
    )

-- they are comparable exactly where the forks stand in line
pub comparable-exactly : (n : ℕ) (past : Past) (j s k t : ℕ) (x y : Done)
    → IsFree past.hashed → IsBook n past → find past.book j s ≡ Some x → find past.book k t ≡ Some y
    → (is_comparable x.version y.version ≡ true) ↔ AreAlong x.fork y.fork
comparable-exactly n past j s k t x y free book_sound in_x in_y =
    let a = book_sound j s x in_x in
    let b = book_sound k t y in_y in
    let up = below-exactly n past j s k t x y free book_sound in_x in_y in
    let down = below-exactly n past k t j s y x free book_sound in_y in_x in (
      λ holds. elim (or_cases (is_at_most x.version y.version) (is_at_most y.version x.version) holds) [
        | inl le ↦ inl (up.0 ((is_at_most-means x.version y.version).0 le))
        | inr ge ↦ inr (down.0 ((is_at_most-means y.version x.version).0 ge))
      ],
      λ along. comparable-along n x.version y.version x.fork y.fork a.version b.version along,
    )

-- one version, one fork
pub fork-same : (n : ℕ) (past : Past) (j s k t : ℕ) (x y : Done) → IsFree past.hashed
    → IsBook n past → find past.book j s ≡ Some x → find past.book k t ≡ Some y → x.version ≡ y.version → x.fork ≡ y.fork
fork-same n past j s k t x y free book_sound in_x in_y same =
    let a = book_sound j s x in_x in
    let b = book_sound k t y in_y in
    let below : IsAtMost x.version y.version = subst (λ (z : Vector). IsAtMost x.version z) same
    (at_most-tail n x.version x.version x.fork x.fork a.version a.version (tail-refl x.fork)) in
    let above : IsAtMost y.version x.version = subst (λ (z : Vector). IsAtMost z x.version) same
    (at_most-tail n x.version x.version x.fork x.fork a.version a.version (tail-refl x.fork)) in
    tail-antisym x.fork y.fork ((below-exactly n past j s k t x y free book_sound in_x in_y).0 below)
    ((below-exactly n past k t j s y x free book_sound in_y in_x).0 above)

-- the own forks of a client go up: each is the front of a later one that ends with its operation
pub own-front : (n : ℕ) (past : Past) (k s t : ℕ) (x y : Done)
    → IsBook n past → find past.book k s ≡ Some x → find past.book k t ≡ Some y → s ≤ t → x.fork ≡ upto k s y.fork
own-front n past k s t x y book_sound in_x in_y le =
    let of_y = found-of n past k t y book_sound in_y in
    let sound = book_sound k t y in_y in
    elim (cases_lt s t) [
      | inl lt ↦
          front-within n past k s x y.fork book_sound in_x sound.fork.settled (omega (arith, lt, of_y.counted))
      | inr ge ↦
          let last : s ≡ t = omega (arith, le, ge) in
          let here : find past.book k t ≡ Some x = subst (λ (z : ℕ). find past.book k z ≡ Some x) last in_x in
          let same : x.fork ≡ y.fork = ap (λ (z : Done). z.fork) (found-once (find past.book k t) x y here in_y) in
          let whole : upto k (count k y.fork) y.fork ≡ y.fork = upto-ended k y.fork y.fork of_y.ends (tail-refl y.fork) in
          let counted : count k y.fork ≡ s = of_y.counted ∙ sym last in
          same ∙ sym whole ∙ ap (λ (z : ℕ). upto k z y.fork) counted
    ]

pub own-grows : (n : ℕ) (past : Past) (k s t : ℕ) (x y : Done)
    → IsBook n past → find past.book k s ≡ Some x → find past.book k t ≡ Some y → s ≤ t → IsTail x.fork y.fork
own-grows n past k s t x y book_sound in_x in_y le =
    subst (λ (z : List ℕ). IsTail z y.fork) (sym (own-front n past k s t x y book_sound in_x in_y le)) (upto-tail k s y.fork)

-- of two versions that clients made: one is at most the other exactly where its history is a front of the other's
pub history-below : (n : ℕ) (past : Past) (j : ℕ) (v x : Vector) (w : List ℕ) → IsGround n past → IsVersionFor n v → IsBooked past.book j v
    → IsFork n past past.entry w → IsVersionOf n x w → IsAtMost v x → IsTail (history_at past.book j v) w
history-below n past j v x w ground range (inl is) fork version below =
    let nothing : history_at past.book j v ≡ [] = cond-true (is_initial v) [] (fork_of (find past.book j (timestamp_at v j))) is in
    subst (λ (z : List ℕ). IsTail z w) (sym nothing) (tail-nil w)
history-below n past j v x w ground range (inr came) fork version below =
    let fresh = completed-fresh n past j (timestamp_at v j) v came.done ground came.found came.fits_it in
    let is_fork : history_at past.book j v ≡ came.done.fork =
    cond-false (is_initial v) [] (fork_of (find past.book j (timestamp_at v j))) fresh ∙ ap fork_of came.found in
    let mine : IsAtMost came.done.version x = subst (λ (z : Vector). IsAtMost z x) (sym came.fits_it) below in
    subst (λ (z : List ℕ). IsTail z w) (sym is_fork)
    (tail-below n past j (timestamp_at v j) past.entry came.done x w ground.free ground.sound came.found fork version mine)

pub booked-below : (n : ℕ) (past : Past) (j k : ℕ) (v x : Vector) → IsGround n past → IsVersionFor n v → IsVersionFor n x
    → IsBooked past.book j v → IsBooked past.book k x → IsAtMost v x ↔ IsTail (history_at past.book j v) (history_at past.book k x)
booked-below n past j k v x ground v_range x_range v_booked x_booked =
    let a = booked-history n past j v ground v_range v_booked in
    let b = booked-history n past k x ground x_range x_booked in (
      λ below. history-below n past j v x (history_at past.book k x) ground v_range v_booked b.fork b.version below,
      λ front. at_most-tail n v x (history_at past.book j v) (history_at past.book k x) a.version b.version front,
    )

pub booked-comparable : (n : ℕ) (past : Past) (j k : ℕ) (v x : Vector) → IsGround n past → IsVersionFor n v → IsVersionFor n x
    → IsBooked past.book j v → IsBooked past.book k x
    → (is_comparable v x ≡ true) ↔ AreAlong (history_at past.book j v) (history_at past.book k x)
booked-comparable n past j k v x ground v_range x_range v_booked x_booked =
    let a = booked-history n past j v ground v_range v_booked in
    let b = booked-history n past k x ground x_range x_booked in
    let up = booked-below n past j k v x ground v_range x_range v_booked x_booked in
    let down = booked-below n past k j x v ground x_range v_range x_booked v_booked in (
      λ holds. elim (or_cases (is_at_most v x) (is_at_most x v) holds) [
        | inl le ↦ inl (up.0 ((is_at_most-means v x).0 le))
        | inr ge ↦ inr (down.0 ((is_at_most-means x v).0 ge))
      ],
      λ along. comparable-along n v x (history_at past.book j v) (history_at past.book k x) a.version b.version along,
    )
