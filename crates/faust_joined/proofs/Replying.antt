-- What the honest server replies is of its history: each body that a reply has to answer for is that of an operation that
-- arrived, or of one whose COMMIT was taken.
use Rattle.std.proofs.Common.{◌≡◌, ◌⊎◌, ◌+◌, ◌^◌, ◌≤◌, ◌<◌, ℕ, zero, suc, Bool, true, false, cond, nat_lt, List, [], ◌∷◌, ◌++◌, Option, Some, None, refl, sym, ap, ◌∙◌, subst, inl, inr, arith}
use Rattle.std.proofs.lemmas.Bool.{cond-true}
use Rattle.std.proofs.lemmas.List.{append-nil}
use Rattle.faust_types.specs.Clients.{IsClient}
use Rattle.faust_types.specs.Versions.{digest_at, is_initial, timestamp_at}
use Rattle.faust_types.specs.declared.operation.Kind.{Kind}
use Rattle.faust_types.specs.declared.operation.Kind.TheVariants.{Write, Read}
use Rattle.faust_types.specs.declared.message.Known.{Known}
use Rattle.faust_types.specs.declared.message.Mem.{Mem}
use Rattle.faust_types.specs.declared.message.Submit.{Submit}
use Rattle.faust_types.specs.declared.message.Tuple.{Tuple}
use Rattle.faust_hash.specs.Chain.{chain_of}
use Rattle.faust_tags.specs.Bodies.{commit_body, proof_body, submit_body}
use Rattle.faust_server.specs.Rows.{State, greatest, memory_at, read_part, remembered, served, version_at}
use Rattle.faust_ustor.specs.declared.walk.Walk.{Walk}
use Rattle.faust_ustor.specs.Checks.{advanced, proof_at}
use Rattle.faust_ustor.specs.Passed.{followed}
use Rattle.faust_lists.specs.Lists.{count, upto, IsTail}
use Rattle.faust_lists.specs.Names.{Has}
use Rattle.faust_lists.specs.Walks.{IsVersionOf, IsWalkOf}
use Rattle.faust_lists.proofs.Counts.{count-own, upto-none}
use Rattle.faust_lists.proofs.Fronts.{upto-stable}
use Rattle.faust_lists.proofs.Tails.{AreClients-tail, count-append, count-tail, tail-cons, tail-refl}
use Rattle.faust_lists.proofs.Versions.{is_initial-nil}
use Rattle.faust_honest.specs.World.{World}
use Rattle.faust_honest.specs.Honest.{IsHonest, mem_of, pending_of, tuple_at}
use Rattle.faust_honest.proofs.Pending.{IsWalkOf-pending}
use Rattle.faust_honest.proofs.Standing.{clients-after, greatest-last, greatest-version, once, settled-counts}
use Rattle.faust_forks.specs.Pairs.{Pair, checked, known_pairs, mem_pairs, proof_pairs, read_pairs, submit_pair, tuple_pairs}
use Rattle.faust_forks.proofs.Members.{has-left, has-right}
use Rattle.faust_agent.proofs.Kept.{either_way}
use Rattle.faust_audit.specs.Departure.{Given}
use Rattle.faust_joined.specs.Joined.{AreGivenOf, AreOfHistory, IsBodyOf, of_commit, of_data, of_proof, of_submit}
use Rattle.faust_joined.proofs.Saying.{has-either}

-- ---- pairs that are put together

pub none-of : (n : ℕ) (world : World) (arrived handled : List ℕ) → AreOfHistory n world arrived handled []
none-of n world arrived handled pair has = absurd has

pub one-of : (n : ℕ) (world : World) (arrived handled : List ℕ) (only : Pair) → IsBodyOf n world arrived handled only.body
    → AreOfHistory n world arrived handled (only ∷ [])
one-of n world arrived handled only is pair (inl same) =
    subst (λ (x : Pair). IsBodyOf n world arrived handled x.body) (sym same) is
one-of n world arrived handled only is pair (inr none) = absurd none

pub both-of : (n : ℕ) (world : World) (arrived handled : List ℕ) (xs ys : List Pair) → AreOfHistory n world arrived handled xs
    → AreOfHistory n world arrived handled ys → AreOfHistory n world arrived handled (xs ++ ys)
both-of n world arrived handled xs ys front back pair has = elim (has-either xs ys pair has) [
  | inl h ↦ front pair h
  | inr h ↦ back pair h
]

-- ---- the history goes on

pub body-later : (n : ℕ) (world : World) (arrived handled later more body : List ℕ) → IsTail arrived later
    → ((k : ℕ) → count k handled ≤ count k more) → IsBodyOf n world arrived handled body → IsBodyOf n world later more body
body-later n world arrived handled later more body on grows (of_submit k t client lt is) =
    of_submit k t client (omega (arith, lt, count-tail k arrived later on)) is
body-later n world arrived handled later more body on grows (of_data k t client lt is) =
    of_data k t client (omega (arith, lt, count-tail k arrived later on)) is
body-later n world arrived handled later more body on grows (of_commit k t version client lt taken of_version is) =
    of_commit k t version client (omega (arith, lt, count-tail k arrived later on)) (omega (arith, taken, grows k))
    (subst (λ (w : List ℕ). IsVersionOf n version w) (sym (upto-stable k (suc t) arrived later on (omega (arith, lt)))) of_version) is
body-later n world arrived handled later more body on grows (of_proof k t digest client lt taken chain is) =
    of_proof k t digest client (omega (arith, lt, count-tail k arrived later on)) (omega (arith, taken, grows k))
    (ap chain_of (upto-stable k (suc t) arrived later on (omega (arith, lt))) ∙ chain) is

pub pairs-later : (n : ℕ) (world : World) (arrived handled later more : List ℕ) (pairs : List Pair) → IsTail arrived later
    → ((k : ℕ) → count k handled ≤ count k more) → AreOfHistory n world arrived handled pairs → AreOfHistory n world later more pairs
pairs-later n world arrived handled later more pairs on grows all pair has =
    body-later n world arrived handled later more pair.body on grows (all pair has)

pub given-later : (n : ℕ) (world : World) (arrived handled later more : List ℕ) (given : List Given) → IsTail arrived later
    → ((k : ℕ) → count k handled ≤ count k more) → AreGivenOf n world arrived handled given → AreGivenOf n world later more given
given-later n world arrived handled later more [] on grows all = tt
given-later n world arrived handled later more (g ∷ rest) on grows all = (
  pairs-later n world arrived handled later more (checked g.reply) on grows all.0,
  given-later n world arrived handled later more rest on grows all.1,
)

pub given-one : (n : ℕ) (world : World) (arrived handled : List ℕ) (given : List Given) (g : Given)
    → AreGivenOf n world arrived handled given
    → AreOfHistory n world arrived handled (checked g.reply) → AreGivenOf n world arrived handled (given ++ g ∷ [])
given-one n world arrived handled [] g all here = (here, tt)
given-one n world arrived handled (x ∷ rest) g all here = (all.0, given-one n world arrived handled rest g all.1 here)

-- ---- a version, a proof, a memory

known-by : (n : ℕ) (world : World) (arrived handled : List ℕ) (k : ℕ) (known : Known) (m : ℕ) → IsClient n k → m ≤ count k arrived
    → count k handled ≡ m → IsVersionOf n known.version (upto k m arrived) → AreOfHistory n world arrived handled (known_pairs k known)
known-by n world arrived handled k known zero client most taken version =
    let first : is_initial known.version ≡ true =
    is_initial-nil n known.version (subst (λ (w : List ℕ). IsVersionOf n known.version w) (upto-none k arrived) version) in
    let signed : Pair = record { body = commit_body k known.version; tag = known.tag } in
    let none : known_pairs k known ≡ [] = cond-true (is_initial known.version) [] (signed ∷ []) first in
    subst (λ (l : List Pair). AreOfHistory n world arrived handled l) (sym none) (none-of n world arrived handled)
known-by n world arrived handled k known (suc t) client most taken version =
    let signed : Pair = record { body = commit_body k known.version; tag = known.tag } in
    either_way (λ (l : List Pair). AreOfHistory n world arrived handled l) (is_initial known.version) [] (signed ∷ [])
    (λ first. none-of n world arrived handled)
    (λ made. one-of n world arrived handled signed
    (of_commit k t known.version client (omega (arith, most)) (omega (arith, taken)) version refl))

proof-by : (n : ℕ) (world : World) (arrived handled : List ℕ) (k : ℕ) (digest proof : Option (List ℕ)) (m : ℕ) → IsClient n k
    → m ≤ count k arrived → count k handled ≡ m → digest ≡ chain_of (upto k m arrived)
    → AreOfHistory n world arrived handled (proof_pairs k digest proof)
proof-by n world arrived handled k None proof m client most taken is = none-of n world arrived handled
proof-by n world arrived handled k (Some d) None m client most taken is = none-of n world arrived handled
proof-by n world arrived handled k (Some d) (Some proof) zero client most taken is =
    let never : Some d ≡ None = is ∙ ap chain_of (upto-none k arrived) in
    absurd (cc never)
proof-by n world arrived handled k (Some d) (Some proof) (suc t) client most taken is =
    let proven : Pair = record { body = proof_body k d; tag = proof } in
    one-of n world arrived handled proven (of_proof k t d client (omega (arith, most)) (omega (arith, taken)) (sym is) refl)

mem-by : (n : ℕ) (world : World) (arrived handled : List ℕ) (k t : ℕ) → IsClient n k → t ≤ count k arrived
    → AreOfHistory n world arrived handled (mem_pairs k (mem_of world k t))
mem-by n world arrived handled k zero client most = none-of n world arrived handled
mem-by n world arrived handled k (suc t) client most =
    one-of n world arrived handled _ (of_data k t client (omega (arith, most)) refl)

-- ---- tuples

split-on : (b : Bool) (first : List Pair) (step : Pair) (front whole behind : List Pair) (pair : Pair)
    → Has (cond b (step ∷ whole) []) pair → (Has whole pair → Has front pair ⊎ Has behind pair)
    → Has (first ++ cond b (step ∷ front) []) pair ⊎ Has behind pair
split-on true first step front whole behind pair (inl same) split = inl (has-right first (step ∷ front) pair (inl same))
split-on true first step front whole behind pair (inr later) split = elim (split later) [
  | inl here ↦ inl (has-right first (step ∷ front) pair (inr here))
  | inr there ↦ inr there
]
split-on false first step front whole behind pair has split = absurd has

tuples-split : (proofs : List (Option (List ℕ))) (behind : List Pair) (walk : Walk) (xs ys : List Tuple) (pair : Pair)
    → Has (tuple_pairs proofs behind walk (xs ++ ys)) pair
    → Has (tuple_pairs proofs [] walk xs) pair ⊎ Has (tuple_pairs proofs behind (followed walk xs) ys) pair
tuples-split proofs behind walk [] ys pair has = inr has
tuples-split proofs behind walk (x ∷ xs) ys pair has =
    let first : List Pair = proof_pairs x.client (digest_at walk.version x.client) (proof_at proofs x.client) in
    let b : Bool = nat_lt (timestamp_at walk.version x.client + 1) (2 ^ 40) in
    let step : Pair = submit_pair walk x in
    let next : Walk = advanced walk x.client in
    let front : List Pair = tuple_pairs proofs [] next xs in
    let whole : List Pair = tuple_pairs proofs behind next (xs ++ ys) in
    elim (has-either first (cond b (step ∷ whole) []) pair has) [
      | inl here ↦ inl (has-left first (cond b (step ∷ front) []) pair here)
      | inr later ↦ split-on b first step front whole (tuple_pairs proofs behind (followed next xs) ys) pair later
          (λ inside. tuples-split proofs behind next xs ys pair inside)
    ]

-- a front of what stands before others
tail-put : {X : Type 0} (u s w : List X) → IsTail u w → IsTail (u ++ s) (w ++ s)
tail-put {X} u s [] h = subst (λ (z : List X). IsTail (z ++ s) s) (sym h) (tail-refl s)
tail-put {X} u s (x ∷ w) (inl same) = inl (ap (λ (z : List X). z ++ s) same)
tail-put {X} u s (x ∷ w) (inr h) = inr (tail-put u s w h)

module _ (n : ℕ) (world : World) (st : State) (arrived handled : List ℕ) (h : IsHonest n world st arrived handled) where
  -- the version that is held of client k
  known-of : (k : ℕ) → IsClient n k → AreOfHistory n world arrived handled (known_pairs k (version_at st k))
  known-of k client =
      known-by n world arrived handled k (version_at st k) (count k handled) client (h.held k client).most refl (h.held k client).version

  mem-of : (k : ℕ) → IsClient n k → AreOfHistory n world arrived handled (mem_pairs k (memory_at st k))
  mem-of k client =
      subst (λ (mem : Option Mem). AreOfHistory n world arrived handled (mem_pairs k mem)) (sym (h.held k client).mem_is)
      (mem-by n world arrived handled k (count k arrived) client (omega arith))

  -- the walk over a reply begins at the settled part
  abbrev first : Walk
  first = record { version = (greatest st).version; digest = digest_at (greatest st).version st.c }

  walk-first : IsWalkOf n first h.settled
  walk-first =
      let greater : IsVersionOf n (greatest st).version h.settled = greatest-version n world st arrived handled h in
      record {
        version = greater;
        digest = greater.digests st.c h.in_range.c_in_range ∙ ap chain_of (greatest-last n world st arrived handled h);
      }

  -- the tuple of client k, which comes behind those of z
  tuple-of : (k : ℕ) (z : List ℕ) (here : Walk) → IsTail (k ∷ z) h.after → IsClient n k → IsWalkOf n here (z ++ h.settled)
      → AreOfHistory n world arrived handled (tuple_pairs st.proofs [] here (tuple_at world k (suc (count k (z ++ h.settled))) ∷ []))
  tuple-of k z here front client walk =
      let w : List ℕ = z ++ h.settled in
      let tuple : Tuple = tuple_at world k (suc (count k w)) in
      let within : IsTail (k ∷ w) arrived =
      subst (λ (l : List ℕ). IsTail (k ∷ w) l) (sym h.split) (tail-put (k ∷ z) h.settled h.after front) in
      let below : count k w < count k arrived = omega (arith, count-tail k (k ∷ w) arrived within, count-own k k w refl) in
      let stands : 1 ≤ count k h.after = omega (arith, count-tail k (k ∷ z) h.after front, count-own k k z refl) in
      let alone : count k z ≡ 0 =
      omega (arith, count-tail k (k ∷ z) h.after front, count-own k k z refl, once n world st arrived handled h k client) in
      let same : count k w ≡ count k handled =
      omega (arith, count-append k z h.settled, alone, settled-counts n world st arrived handled h k client stands) in
      let digest : digest_at here.version k ≡ chain_of (upto k (count k handled) arrived) =
      walk.version.digests k client ∙ ap (λ (t : ℕ). chain_of (upto k t w)) same
      ∙ ap chain_of (sym (upto-stable k (count k handled) w arrived (tail-cons k w arrived within) (omega (arith, same)))) in
      let number : timestamp_at here.version k + 1 ≡ suc (count k w) = omega (arith, walk.version.timestamps k client) in
      let step : Pair = submit_pair here tuple in
      both-of n world arrived handled (proof_pairs k (digest_at here.version k) (proof_at st.proofs k))
      (cond (nat_lt (timestamp_at here.version k + 1) (2 ^ 40)) (step ∷ []) [])
      (proof-by n world arrived handled k (digest_at here.version k) (proof_at st.proofs k) (count k handled) client
      (h.held k client).most refl digest)
      (either_way (λ (l : List Pair). AreOfHistory n world arrived handled l)
      (nat_lt (timestamp_at here.version k + 1) (2 ^ 40)) (step ∷ []) []
      (λ next. one-of n world arrived handled step (of_submit k (count k w) client below
      (ap (λ (t : ℕ). submit_body k (world.kind k (suc (count k w))) (world.register k (suc (count k w))) t) number)))
      (λ last. none-of n world arrived handled))

  pending-of : (z : List ℕ) → IsTail z h.after
      → AreOfHistory n world arrived handled (tuple_pairs st.proofs [] first (pending_of world h.settled z))
  pending-of [] front = none-of n world arrived handled
  pending-of (k ∷ z) front = λ pair has.
      let shorter : IsTail z h.after = tail-cons k z h.after front in
      let client : IsClient n k = (AreClients-tail n (k ∷ z) h.after (clients-after n world st arrived handled h) front).0 in
      let tuple : Tuple = tuple_at world k (suc (count k (z ++ h.settled))) in
      let before : List Tuple = pending_of world h.settled z in
      elim (tuples-split st.proofs [] first before (tuple ∷ []) pair has) [
        | inl there ↦ pending-of z shorter pair there
        | inr here ↦ tuple-of k z (followed first before) front client
            (IsWalkOf-pending n world first h.settled z walk-first
            (AreClients-tail n z h.after (clients-after n world st arrived handled h) shorter)) pair here
      ]

  tuples-of : (behind : List Pair) → AreOfHistory n world arrived handled behind
      → AreOfHistory n world arrived handled (tuple_pairs st.proofs behind first st.pending)
  tuples-of behind all = λ pair has.
      let pending : List Tuple = pending_of world h.settled h.after in
      let there : Has (tuple_pairs st.proofs behind first (pending ++ [])) pair =
      subst (λ (l : List Tuple). Has (tuple_pairs st.proofs behind first l) pair) (h.pending ∙ sym (append-nil pending)) has in
      elim (tuples-split st.proofs behind first pending [] pair there) [
        | inl tuples ↦ pending-of h.after (tail-refl h.after) pair tuples
        | inr rest ↦ all pair rest
      ]

-- ---- the reply

read-of : (n : ℕ) (world : World) (st now : State) (arrived handled : List ℕ) (kind : Kind) (j : ℕ) → IsHonest n world now arrived handled
    → IsClient n j → now.versions ≡ st.versions → now.memory ≡ st.memory
    → AreOfHistory n world arrived handled (read_pairs (read_part st kind j))
read-of n world st now arrived handled Write j honest client versions memory = none-of n world arrived handled
read-of n world st now arrived handled Read j honest client versions memory =
    both-of n world arrived handled (known_pairs j (version_at st j)) (mem_pairs j (memory_at st j))
    (subst (λ (l : List Known). AreOfHistory n world arrived handled (known_pairs j (version_at (record st { versions = l }) j))) versions
    (known-of n world now arrived handled honest j client))
    (subst (λ (l : List (Option Mem)). AreOfHistory n world arrived handled (mem_pairs j (memory_at (record st { memory = l }) j))) memory
    (mem-of n world now arrived handled honest j client))

pub reply-of : (n : ℕ) (world : World) (st : State) (arrived handled : List ℕ) (i : ℕ) (m : Submit) → IsHonest n world st arrived handled
    → IsHonest n world (served st i m).state (i ∷ arrived) handled → IsClient n m.register
    → AreOfHistory n world (i ∷ arrived) handled (checked (served st i m).reply)
reply-of n world st arrived handled i m h now register =
    let Later : List Pair → Type 0 = λ (l : List Pair). AreOfHistory n world (i ∷ arrived) handled l in
    let read : List Pair = read_pairs (read_part (remembered st i m) m.kind m.register) in
    let read_of : Later read =
    read-of n world (remembered st i m) (served st i m).state (i ∷ arrived) handled m.kind m.register now register refl refl in
    let on : IsTail arrived (i ∷ arrived) = inr (tail-refl arrived) in
    let same : (k : ℕ) → count k handled ≤ count k handled = λ k. omega arith in
    both-of n world (i ∷ arrived) handled (known_pairs st.c (greatest st))
    (tuple_pairs st.proofs read (first n world st arrived handled h) st.pending)
    (pairs-later n world arrived handled (i ∷ arrived) handled (known_pairs st.c (greatest st)) on same
    (known-of n world st arrived handled h st.c h.in_range.c_in_range))
    (λ pair has. elim (tuples-split st.proofs read (first n world st arrived handled h) st.pending [] pair
    (subst (λ (l : List Tuple). Has (tuple_pairs st.proofs read (first n world st arrived handled h) l) pair)
    (sym (append-nil st.pending)) has)) [
      | inl tuples ↦ body-later n world arrived handled (i ∷ arrived) handled pair.body on same
          (tuples-of n world st arrived handled h [] (none-of n world arrived handled) pair tuples)
      | inr rest ↦ read_of pair rest
    ])
