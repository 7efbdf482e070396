-- Cuts are backed: what a client covers stands in line with its own operations.
use Rattle.std.proofs.Common.{◌≡◌, ℕ, ◌-◌, ◌+◌, ◌≤◌, suc, zero, min, true, List, [], ◌∷◌, ◌++◌, Option, Some, cond, get_or, length, sym, ap, ◌∙◌, subst, inl, inr, arith}
use Rattle.std.proofs.lemmas.Bool.{cases_eq, cases_lt, cond-false, cond-true}
use Rattle.std.proofs.lemmas.List.{get_or_append_left, get_or-append-add}
use Rattle.faust_types.specs.Clients.{IsClient, IsClientCount}
use Rattle.faust_types.specs.Ranges.{IsVersionFor}
use Rattle.faust_types.specs.Versions.{Vector, initial, is_initial, timestamp_at}
use Rattle.faust_types.specs.declared.config.Config.{Config}
use Rattle.faust_types.specs.declared.message.Known.{Known}
use Rattle.faust_types.proofs.Order.{is_initial-means, zero-at-initial}
use Rattle.faust_agent.specs.State.{completed_count, cut_at, cut_up_to, slot_at, version_at}
use Rattle.faust_agent.specs.Table.{cut_of}
use Rattle.faust_agent.specs.declared.client.Client.{Client}
use Rattle.faust_agent.proofs.Slots.{length-cut}
use Rattle.faust_lists.specs.Lists.{AreAlong, IsTail, count, upto}
use Rattle.faust_lists.proofs.Fronts.{upto-reached, upto-tail}
use Rattle.faust_lists.proofs.Tails.{along-below, along-sym, tail-trans}
use Rattle.faust_forks.specs.Books.{AreDoneIn, Completed, Done, find}
use Rattle.faust_forks.specs.Forks.{IsBooked, IsGround, IsOwn}
use Rattle.faust_forks.specs.Pasts.{IsLater, Past, fork_of, history_at}
use Rattle.faust_forks.proofs.Booked.{booked-history, completed-fresh, own-booked}
use Rattle.faust_forks.proofs.Found.{found-none, found-once}
use Rattle.faust_forks.proofs.Ordered.{booked-below, booked-comparable, found-of, own-front, own-grows}
use Rattle.faust_names.specs.Chronicles.{IsBacked}
use Rattle.faust_names.specs.Cuts.{number_at}
use Rattle.faust_record.specs.declared.entry.Entry.{Entry}
use Rattle.faust_runs.specs.Ledgers.{client_after}
use Rattle.faust_held.specs.Given.{IsBelowHeld, IsGiven, by_completion, by_message}
use Rattle.faust_held.proofs.Holding.{given-more}
use Rattle.faust_held.proofs.Stepping.{AreKept, said-in_range}

-- the history of a version of a completion, and that it stays
history-is : (n : ℕ) (past : Past) (k : ℕ) (v : Vector) → IsGround n past
    → (came : Completed past.book k (timestamp_at v k) (λ done. done.version ≡ v)) → history_at past.book k v ≡ came.done.fork
history-is n past k v ground came =
    cond-false (is_initial v) [] (fork_of (find past.book k (timestamp_at v k)))
    (completed-fresh n past k (timestamp_at v k) v came.done ground came.found came.fits_it)
    ∙ ap fork_of came.found

history-later : (book more : List Done) (k : ℕ) (v : Vector) → AreDoneIn book more → IsBooked book k v
    → history_at more k v ≡ history_at book k v
history-later book more k v dones (inl is) =
    cond-true (is_initial v) [] (fork_of (find more k (timestamp_at v k))) is
    ∙ sym (cond-true (is_initial v) [] (fork_of (find book k (timestamp_at v k))) is)
history-later book more k v dones (inr came) =
    let t = timestamp_at v k in
    let same : find more k t ≡ find book k t = dones k t came.done came.found ∙ sym came.found in
    ap (λ (found : Option Done). cond (is_initial v) [] (fork_of found)) same

-- each completion of a client is within the history of its own version
own-counted : (n : ℕ) (past : Past) (me s : ℕ) (own : Vector) (x : Done) → IsOwn n past.book me own → find past.book me s ≡ Some x
    → s ≤ timestamp_at own me
own-counted n past me s own x owned found = elim (cases_lt (timestamp_at own me) s) [
  | inl above ↦ absurd (found-none (find past.book me s) x (owned.last s above) found)
  | inr le ↦ le
]

none-counted : (n me t : ℕ) (own : Vector) → IsClient n me → own ≡ initial n → 1 ≤ t → t ≤ timestamp_at own me → ⊥
none-counted n me t own client is one le =
    let zero_is : timestamp_at own me ≡ 0 = ap (λ (v : Vector). timestamp_at v me) is ∙ zero-at-initial n me client in
    omega (arith, one, le, zero_is)

pub own-tail : (n : ℕ) (past : Past) (me s : ℕ) (own : Vector) (x : Done) → IsGround n past → IsClient n me → IsOwn n past.book me own
    → find past.book me s ≡ Some x → IsTail x.fork (history_at past.book me own)
own-tail n past me s own x ground client owned found =
    let le : s ≤ timestamp_at own me = own-counted n past me s own x owned found in
    let one : 1 ≤ s = (found-of n past me s x ground.sound found).some in
    elim owned.held [
      | inl is ↦ absurd (none-counted n me s own client is one le)
      | inr came ↦
          subst (λ (w : List ℕ). IsTail x.fork w) (sym (history-is n past me own ground came))
          (own-grows n past me s (timestamp_at own me) x came.done ground.sound found came.found le)
    ]

-- Operation t of client me completed, and its fork is the front of the own history that ends with it.
pub record IsEarlier (past : Past) (me t : ℕ) (own : Vector) : Type 0 where
  pub done : Done
  pub found : find past.book me t ≡ Some done
  pub front : done.fork ≡ upto me t (history_at past.book me own)

earlier-found : (n : ℕ) (past : Past) (me t : ℕ) (own : Vector) → IsGround n past
    → (came : Completed past.book me (timestamp_at own me) (λ done. done.version ≡ own)) → 1 ≤ t → t ≤ timestamp_at own me
    → Completed past.book me t (λ done. Unit {0})
earlier-found n past me t own ground came one le =
    let y = came.done in
    let of_y = found-of n past me (timestamp_at own me) y ground.sound came.found in
    let settled = (ground.sound me (timestamp_at own me) y came.found).fork.settled in
    elim (cases_lt t (timestamp_at own me)) [
      | inl within ↦
          let there = settled me t of_y.client one (omega (arith, within, of_y.counted)) in
          record { done = there.done; found = there.found; fits_it = tt }
      | inr at ↦
          let last : timestamp_at own me ≡ t = omega (arith, le, at) in
          record { done = y; found = subst (λ (s : ℕ). find past.book me s ≡ Some y) last came.found; fits_it = tt }
    ]

pub own-earlier : (n : ℕ) (past : Past) (me t : ℕ) (own : Vector) → IsGround n past → IsClient n me → IsOwn n past.book me own
    → 1 ≤ t → t ≤ timestamp_at own me → IsEarlier past me t own
own-earlier n past me t own ground client owned one le = elim owned.held [
  | inl is ↦ absurd (none-counted n me t own client is one le)
  | inr came ↦
      let there = earlier-found n past me t own ground came one le in
      record {
        done = there.done;
        found = there.found;
        front = own-front n past me t (timestamp_at own me) there.done came.done ground.sound there.found came.found le
            ∙ ap (λ (w : List ℕ). upto me t w) (sym (history-is n past me own ground came));
      }
]

-- what a client gave away stands in line with its own version
given-own : (config : Config) (entries : List Entry) (past : Past) (k : ℕ) (known : Known) → IsClientCount config.clients
    → AreKept config entries past
    → IsClient config.clients k → IsGiven past.book past.made k known
    → AreAlong (history_at past.book known.maker known.version) (history_at past.book k (version_at (client_after config k entries) k))
given-own config entries past k known count h client (by_completion maker came) =
    let own = version_at (client_after config k entries) k in
    let ground = h.sound.ground in
    let is_fork : history_at past.book known.maker known.version ≡ came.done.fork =
    ap (λ (i : ℕ). history_at past.book i known.version) maker ∙ history-is config.clients past k known.version ground came in
    inl (subst (λ (w : List ℕ). IsTail w (history_at past.book k own)) (sym is_fork)
    (own-tail config.clients past k (timestamp_at known.version k) own came.done ground client (h.sound.held k client).owned came.found))
given-own config entries past k known count h client (by_message said) =
    let n = config.clients in
    let ground = h.sound.ground in
    let st = client_after config k entries in
    let own = version_at st k in
    let held = h.held.held k client in
    let below = subst (λ (i : ℕ). IsBelowHeld n past.book (client_after config i entries).heard known) said.from_k
    (h.held.said said.message known said.in_made said.says) in
    let slot = slot_at st below.at in
    let ranges = (h.sound.in_range k client).versions in
    let range : IsVersionFor n known.version =
    (said-in_range n past.made said.message known ground.sources said.in_made said.says).known_by.version_in_range in
    let slot_range : IsVersionFor n slot.version = (ranges.in_range below.at below.client).known_by.version_in_range in
    let own_range : IsVersionFor n own = (ranges.in_range k client).known_by.version_in_range in
    let slot_booked = held.booked below.at below.client in
    let tail : IsTail (history_at past.book known.maker known.version) (history_at past.book slot.maker slot.version) =
    (booked-below n past known.maker slot.maker known.version slot.version ground range slot_range below.booked slot_booked).0
    below.below in
    let along : AreAlong (history_at past.book slot.maker slot.version) (history_at past.book k own) =
    (booked-comparable n past slot.maker k slot.version own ground slot_range own_range slot_booked
    (own-booked n past.book k own count (h.sound.held k client).owned)).0 (held.agree below.at k below.client client) in
    along-below (history_at past.book known.maker known.version) (history_at past.book slot.maker slot.version)
    (history_at past.book k own) tail along

-- and with each of its completions, whichever came first
pub given-agrees : (config : Config) (entries : List Entry) (past : Past) (k s : ℕ) (known : Known) (x : Done)
    → IsClientCount config.clients → AreKept config entries past
    → IsClient config.clients k → IsGiven past.book past.made k known → find past.book k s ≡ Some x
    → AreAlong x.fork (history_at past.book known.maker known.version)
given-agrees config entries past k s known x count h client given found =
    let own = history_at past.book k (version_at (client_after config k entries) k) in
    let given_list = history_at past.book known.maker known.version in
    along-below x.fork own given_list
    (own-tail config.clients past k s (version_at (client_after config k entries) k) x h.sound.ground client
    (h.sound.held k client).owned found)
    (along-sym given_list own (given-own config entries past k known count h client given))

-- Client k gave a version away whose history has operation t of client i, which completed, with its fork as a front.
pub record IsCover (past : Past) (i t k : ℕ) : Type 0 where
  pub done : Done
  pub found : find past.book i t ≡ Some done
  pub known : Known
  pub given : IsGiven past.book past.made k known
  pub booked : IsBooked past.book known.maker known.version
  pub front : IsTail done.fork (history_at past.book known.maker known.version)

given-fresh : (n : ℕ) (v : Vector) (i t : ℕ) → IsClient n i → IsVersionFor n v → 1 ≤ t → t ≤ timestamp_at v i → is_initial v ≡ true → ⊥
given-fresh n v i t client range one le is =
    let same : v ≡ initial n = (is_initial-means v range.kept).0 is ∙ ap initial range.count in
    none-counted n i t v client same one le

covers-by : (w own : List ℕ) (i t : ℕ) → t ≤ count i w → AreAlong w own → IsTail (upto i t own) w
covers-by w own i t le (inl front) = upto-reached i t w own front le
covers-by w own i t le (inr around) = tail-trans (upto i t own) own w (upto-tail i t own) around

pub covers : (config : Config) (entries : List Entry) (past : Past) (i t k : ℕ) → IsClientCount config.clients
    → AreKept config entries past → IsClient config.clients i → IsClient config.clients k → (k ≡ i → ⊥) → 1 ≤ t
    → t ≤ timestamp_at (version_at (client_after config i entries) k) i
    → t ≤ completed_count i (client_after config i entries) → IsCover past i t k
covers config entries past i t k count h of_i of_k other one heard completed =
    let n = config.clients in
    let ground = h.sound.ground in
    let st = client_after config i entries in
    let own = version_at st i in
    let slot = slot_at st k in
    let held = h.held.held i of_i in
    let owned = (h.sound.held i of_i).owned in
    let ranges = (h.sound.in_range i of_i).versions in
    let slot_range : IsVersionFor n slot.version = (ranges.in_range k of_k).known_by.version_in_range in
    let own_range : IsVersionFor n own = (ranges.in_range i of_i).known_by.version_in_range in
    let slot_booked = held.booked k of_k in
    let earlier = own-earlier n past i t own ground of_i owned one completed in
    let w : List ℕ = history_at past.book slot.maker slot.version in
    let along : AreAlong w (history_at past.book i own) =
    (booked-comparable n past slot.maker i slot.version own ground slot_range own_range slot_booked
    (own-booked n past.book i own count owned)).0 (held.agree k i of_k of_i) in
    let counted = (booked-history n past slot.maker slot.version ground slot_range slot_booked).version.timestamps i of_i in
    elim (held.given k of_k other) [
      | inl is ↦ absurd (given-fresh n slot.version i t of_i slot_range one heard is)
      | inr given ↦ record {
        done = earlier.done;
        found = earlier.found;
        known = slot;
        given = given;
        booked = slot_booked;
        front = subst (λ (u : List ℕ). IsTail u w) (sym earlier.front)
            (covers-by w (history_at past.book i own) i t (omega (arith, heard, counted)) along);
      }
    ]

-- so, at the end, each completion of client k stands in line with it
pub covered-agrees : (config : Config) (entries : List Entry) (past first : Past) (i t k s : ℕ) (x : Done)
    → IsClientCount config.clients → AreKept config entries past → IsLater first past → (cover : IsCover first i t k)
    → IsClient config.clients k → find past.book k s ≡ Some x → AreAlong x.fork cover.done.fork
covered-agrees config entries past first i t k s x count h later cover of_k found =
    let known = cover.known in
    let w : List ℕ = history_at past.book known.maker known.version in
    let given : IsGiven past.book past.made k known =
    given-more first.book past.book first.made past.made k known later.done_kept later.made_kept cover.given in
    let front : IsTail cover.done.fork w = subst (λ (u : List ℕ). IsTail cover.done.fork u)
    (sym (history-later first.book past.book known.maker known.version later.done_kept cover.booked)) cover.front in
    along-sym cover.done.fork x.fork
    (along-below cover.done.fork w x.fork front
    (along-sym x.fork w (given-agrees config entries past k s known x count h of_k given found)))

-- the completions of one client stand in line
pub own-along : (n : ℕ) (past : Past) (k s t : ℕ) (x y : Done) → IsGround n past → find past.book k s ≡ Some x
    → find past.book k t ≡ Some y → AreAlong x.fork y.fork
own-along n past k s t x y ground in_x in_y = elim (cases_lt s t) [
  | inl before ↦ inl (own-grows n past k s t x y ground.sound in_x in_y (omega (arith, before)))
  | inr le ↦ inr (own-grows n past k t s y x ground.sound in_y in_x le)
]

-- what a cut has for a client
pub cut-number : (me : ℕ) (st : Client) (n k : ℕ) → IsClient n k → number_at (cut_up_to me st n) k ≡ cut_at me st k
cut-number me st zero k client = absurd (omega (arith, client.from_one, client.to_n))
cut-number me st (suc n) k client =
    let front : List ℕ = cut_up_to me st n in
    let last : List ℕ = cut_at me st (suc n) ∷ [] in
    let sized : length front ≡ n = length-cut me st n in
    elim (cases_eq k (suc n)) [
      | inl same ↦
          let place : k - 1 ≡ length front + 0 = omega (arith, same, sized) in
          ap (λ (j : ℕ). get_or (front ++ last) j 0) place ∙ get_or-append-add front last 0 0
          ∙ ap (cut_at me st) (sym same)
      | inr other ↦
          let within : IsClient n k = record { from_one = client.from_one; to_n = omega (arith, client.to_n, other) } in
          get_or_append_left front last 0 (k - 1) (omega (arith, within.from_one, within.to_n, sized)) ∙ cut-number me st n k within
    ]

cut-heard : (me : ℕ) (st : Client) (n k t : ℕ) → IsClient n k → t ≤ number_at (cut_up_to me st n) k
    → (t ≤ timestamp_at (version_at st k) me) × (t ≤ completed_count me st)
cut-heard me st n k t client le =
    let is : number_at (cut_up_to me st n) k ≡ min (timestamp_at (version_at st k) me) (completed_count me st) =
    cut-number me st n k client in
    (omega (arith, le, is), omega (arith, le, is))

-- the cut of a client, at any moment, is backed at the end
pub cut-backed : (config : Config) (front entries : List Entry) (first past : Past) (i : ℕ) → IsClientCount config.clients
    → AreKept config front first → AreKept config entries past → IsLater first past → IsClient config.clients i
    → IsBacked config.clients past.book i (cut_of config i (client_after config i front))
cut-backed config front entries first past i count h end later of_i = λ t one le.
    let n = config.clients in
    let st = client_after config i front in
    let completed = (cut-heard i st n i t of_i le).1 in
    let own = own-earlier n first i t (version_at st i) h.sound.ground of_i (h.sound.held i of_i).owned one completed in
    let found : find past.book i t ≡ Some own.done = later.done_kept i t own.done own.found in
    record {
      done = own.done;
      found = found;
      fits_it = λ k s x covered in_x. elim (cases_eq k i) [
        | inl same ↦
            own-along n past i s t x own.done end.sound.ground (subst (λ (j : ℕ). find past.book j s ≡ Some x) same in_x) found
        | inr other ↦
            let heard = cut-heard i st n k t covered.client covered.reached in
            let cover = covers config front first i t k count h of_i covered.client other one heard.0 heard.1 in
            let along : AreAlong x.fork cover.done.fork =
            covered-agrees config entries past first i t k s x count end later cover covered.client in_x in
            let same : cover.done ≡ own.done = found-once (find first.book i t) cover.done own.done cover.found own.found in
            subst (λ (d : Done). AreAlong x.fork d.fork) same along
      ];
    }
