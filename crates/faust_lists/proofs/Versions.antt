-- The versions and walks of histories.
use Rattle.std.proofs.Common.{◌≡◌, ◌↔◌, ℕ, ◌+◌, ◌-◌, ◌<◌, suc, true, false, List, [], ◌∷◌, Option, None, Some, get_or, refl, sym, ap, ◌∙◌, subst, inl, inr, arith, length-set}
use Rattle.std.specs.List.{AllByRecursion}
use Rattle.std.proofs.lemmas.Bool.{cases_eq, false_from_ne_true, true≢false}
use Rattle.std.proofs.lemmas.List.{ext_get_or, get_or-replicate, length-replicate}
use Rattle.faust_types.specs.Clients.{IsClient}
use Rattle.faust_types.specs.Versions.{Vector, IsAtMost, clients_of, timestamp_at, digest_at, initial, stepped, is_initial, is_comparable}
use Rattle.faust_types.specs.Ranges.{IsTupleFor}
use Rattle.faust_types.specs.declared.message.Tuple.{Tuple}
use Rattle.faust_types.specs.declared.message.Reply.{Reply}
use Rattle.faust_types.proofs.Entries.{timestamp-with_entry, timestamp-with_entry_other, digest-with_entry, digest-with_entry_other}
use Rattle.faust_types.proofs.Order.{zeros-true, zeros-from, zero-at-initial, comparable_below, comparable_turned}
use Rattle.faust_hash.specs.Chain.{chain_of, link}
use Rattle.faust_ustor.specs.declared.walk.Walk.{Walk}
use Rattle.faust_ustor.specs.Checks.{advanced, begun}
use Rattle.faust_ustor.specs.Passed.{followed, clients_after, next_of}
use Rattle.faust_lists.specs.Lists.{count, last_to, AreClients, IsTail, AreAlong}
use Rattle.faust_lists.specs.Walks.{IsVersionOf, IsWalkOf}
use Rattle.faust_lists.proofs.Counts.{count-own, count-other, last_to-own, last_to-other}
use Rattle.faust_lists.proofs.Tails.{tail-refl, tail-cons, count-tail}
use Rattle.faust_lists.proofs.Fronts.{last_to-same}

-- the initial version is that of the empty history
pub IsVersionOf-initial : (n : ℕ) → IsVersionOf n (initial n) []
IsVersionOf-initial n = record {
  sized = length-replicate n 0;
  paired = length-replicate n None;
  timestamps = λ k c. zero-at-initial n k c;
  digests = λ k c. get_or-replicate n (k - 1) None None (omega (arith, c.from_one, c.to_n));
}

-- one more operation
pub IsVersionOf-stepped : (n : ℕ) (v : Vector) (w : List ℕ) (k : ℕ) → IsVersionOf n v w → IsClient n k
    → IsVersionOf n (stepped v k (link (chain_of w) k)) (k ∷ w)
IsVersionOf-stepped n v w k h client =
    let t = timestamp_at v k + 1 in
    let d = link (chain_of w) k in
    let now : Vector = stepped v k d in
    let here : IsClient (clients_of v) k = record { from_one = client.from_one; to_n = omega (arith, client.to_n, h.sized) } in
    record {
      sized = length-set v.timestamps (k - 1) t ∙ h.sized;
      paired = length-set v.digests (k - 1) (Some d) ∙ h.paired;
      timestamps = λ j c. elim (cases_eq j k) [
        | inl e ↦ subst (λ (z : ℕ). timestamp_at now z ≡ count z (k ∷ w)) (sym e)
            (omega (arith, timestamp-with_entry v k t d here, h.timestamps k client, count-own k k w refl))
        | inr ne ↦
            timestamp-with_entry_other v k t d j client.from_one c.from_one ne ∙ h.timestamps j c
            ∙ sym (count-other j k w (λ e. ne (sym e)))
      ];
      digests = λ j c. elim (cases_eq j k) [
        | inl e ↦ subst (λ (z : ℕ). digest_at now z ≡ chain_of (last_to z (k ∷ w))) (sym e)
            (digest-with_entry v k t d client.from_one (omega (arith, client.to_n, h.paired)) ∙ ap chain_of (sym (last_to-own k w)))
        | inr ne ↦
            digest-with_entry_other v k t d j client.from_one c.from_one ne ∙ h.digests j c
            ∙ ap chain_of (sym (last_to-other j k w (λ e. ne (sym e))))
      ];
    }

pub IsWalkOf-advanced : (n : ℕ) (walk : Walk) (w : List ℕ) (k : ℕ) → IsWalkOf n walk w → IsClient n k
    → IsWalkOf n (advanced walk k) (k ∷ w)
IsWalkOf-advanced n walk w k h client = record {
  version = subst (λ (d : Option (List ℕ)). IsVersionOf n (stepped walk.version k (link d k)) (k ∷ w)) (sym h.digest)
      (IsVersionOf-stepped n walk.version w k h.version client);
  digest = ap (λ (d : Option (List ℕ)). Some (link d k)) h.digest;
}

pub IsWalkOf-followed : (n : ℕ) (walk : Walk) (w : List ℕ) (tuples : List Tuple) → IsWalkOf n walk w
    → AllByRecursion (IsTupleFor n) tuples
    → IsWalkOf n (followed walk tuples) (clients_after w tuples)
IsWalkOf-followed n walk w [] h all = h
IsWalkOf-followed n walk w (tuple ∷ rest) h all =
    IsWalkOf-followed n (advanced walk tuple.client) (tuple.client ∷ w) rest
    (IsWalkOf-advanced n walk w tuple.client h all.0.client_in_range) all.1

-- a reply whose version is that of a history which ends with c
pub IsWalkOf-begun : (n : ℕ) (reply : Reply) (w : List ℕ) → IsVersionOf n reply.version.version w → IsClient n reply.c
    → last_to reply.c w ≡ w → IsWalkOf n (begun reply) w
IsWalkOf-begun n reply w h client whole = record { version = h; digest = h.digests reply.c client ∙ ap chain_of whole }

pub IsVersionOf-next : (n me : ℕ) (reply : Reply) (w : List ℕ) → IsWalkOf n (begun reply) w → AllByRecursion (IsTupleFor n) reply.pending
    → IsClient n me → IsVersionOf n (next_of me reply) (me ∷ clients_after w reply.pending)
IsVersionOf-next n me reply w h all client =
    let walk : IsWalkOf n (advanced (followed (begun reply) reply.pending) me) (me ∷ clients_after w reply.pending) =
    IsWalkOf-advanced n _ _ me (IsWalkOf-followed n (begun reply) w reply.pending h all) client in
    walk.version

-- the history before the tuples is a front of that behind them
pub tail-after : (w : List ℕ) (tuples : List Tuple) → IsTail w (clients_after w tuples)
tail-after w [] = tail-refl w
tail-after w (tuple ∷ rest) =
    tail-cons tuple.client w (clients_after (tuple.client ∷ w) rest) (tail-after (tuple.client ∷ w) rest)

pub AreClients-after : (n : ℕ) (w : List ℕ) (tuples : List Tuple) → AreClients n w → AllByRecursion (IsTupleFor n) tuples
    → AreClients n (clients_after w tuples)
AreClients-after n w [] clients all = clients
AreClients-after n w (tuple ∷ rest) clients all =
    AreClients-after n (tuple.client ∷ w) rest (all.0.client_in_range, clients) all.1

-- longer is greater: no digest is compared that isn't of one front
pub at_most-tail : (n : ℕ) (v x : Vector) (u w : List ℕ) → IsVersionOf n v u → IsVersionOf n x w → IsTail u w → IsAtMost v x
at_most-tail n v x u w h i front =
    let in_n : (k : ℕ) → IsClient (clients_of v) k → IsClient n k =
    λ k c. record { from_one = c.from_one; to_n = omega (arith, c.to_n, h.sized) } in
    record {
      timestamps = λ k c. omega (arith, h.timestamps k (in_n k c), i.timestamps k (in_n k c), count-tail k u w front);
      digests = λ k c same.
          let counted : count k u ≡ count k w = omega (arith, h.timestamps k (in_n k c), i.timestamps k (in_n k c), same) in
          h.digests k (in_n k c) ∙ ap chain_of (last_to-same k u w front counted) ∙ sym (i.digests k (in_n k c));
    }

pub comparable-along : (n : ℕ) (v x : Vector) (u w : List ℕ) → IsVersionOf n v u → IsVersionOf n x w → AreAlong u w
    → is_comparable v x ≡ true
comparable-along n v x u w h i (inl front) = comparable_below v x (at_most-tail n v x u w h i front)
comparable-along n v x u w h i (inr front) = comparable_turned v x ∙ comparable_below x v (at_most-tail n x v w u i h front)

-- a history has one version
pub version-same : (n : ℕ) (v x : Vector) (w : List ℕ) → IsVersionOf n v w → IsVersionOf n x w → v ≡ x
version-same n v x w h i =
    let client : (j : ℕ) → j < n → IsClient n (suc j) = λ j lt. record { from_one = omega arith; to_n = omega (arith, lt) } in
    let back : (j : ℕ) → suc j - 1 ≡ j = λ j. omega arith in
    let times : v.timestamps ≡ x.timestamps = ext_get_or 0 v.timestamps x.timestamps (h.sized ∙ sym i.sized)
    (λ j lt.
    let c = client j (omega (arith, lt, h.sized)) in
    subst (λ (z : ℕ). get_or v.timestamps z 0 ≡ get_or x.timestamps z 0) (back j)
    (h.timestamps (suc j) c ∙ sym (i.timestamps (suc j) c))) in
    let marks : v.digests ≡ x.digests = ext_get_or None v.digests x.digests (h.paired ∙ sym i.paired)
    (λ j lt.
    let c = client j (omega (arith, lt, h.paired)) in
    subst (λ (z : ℕ). get_or v.digests z None ≡ get_or x.digests z None) (back j) (h.digests (suc j) c ∙ sym (i.digests (suc j) c))) in
    ap (λ (ts : List ℕ). let z : Vector = record { timestamps = ts; digests = v.digests } in z) times
    ∙ ap (λ (ds : List (Option (List ℕ))). let z : Vector = record { timestamps = x.timestamps; digests = ds } in z) marks

-- the version of a history is initial exactly where nothing stands in it
pub is_initial-nil : (n : ℕ) (v : Vector) → IsVersionOf n v [] → is_initial v ≡ true
unfolding is_initial
is_initial-nil n v h = zeros-from v (clients_of v)
    (λ k c. h.timestamps k (record { from_one = c.from_one; to_n = omega (arith, c.to_n, h.sized) }))

pub is_initial-cons : (n : ℕ) (v : Vector) (k : ℕ) (w : List ℕ) → IsClient n k → IsVersionOf n v (k ∷ w) → is_initial v ≡ false
unfolding is_initial
is_initial-cons n v k w client h = false_from_ne_true _ (λ zero_all.
    let here : IsClient (clients_of v) k = record { from_one = client.from_one; to_n = omega (arith, client.to_n, h.sized) } in
    absurd (omega (arith, zeros-true v (clients_of v) zero_all k here, h.timestamps k client, count-own k k w refl)))

pub nil-from_initial : (n : ℕ) (v : Vector) (w : List ℕ) → AreClients n w → IsVersionOf n v w → is_initial v ≡ true → w ≡ []
nil-from_initial n v [] clients h is = refl
nil-from_initial n v (k ∷ w) clients h is = absurd (true≢false (sym is ∙ is_initial-cons n v k w clients.0 h))

pub initial-exactly : (n : ℕ) (v : Vector) (w : List ℕ) → AreClients n w → IsVersionOf n v w → (is_initial v ≡ true) ↔ (w ≡ [])
initial-exactly n v w clients h = (
  λ is. nil-from_initial n v w clients h is,
  λ nil. is_initial-nil n v (subst (λ (z : List ℕ). IsVersionOf n v z) nil h),
)
