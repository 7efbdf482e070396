-- A client that walks over the tuples of a reply, from a history that clients made, comes to histories that clients
-- made.
use Rattle.std.proofs.Common.{◌≡◌, ℕ, ◌+◌, ◌^◌, ◌<◌, suc, true, List, [], ◌∷◌, Option, Some, refl, sym, ap, ◌∙◌, subst, inl, inr, arith}
use Rattle.std.specs.List.{AllByRecursion}
use Rattle.std.proofs.lemmas.Bool.{cases_lt, ltb-true}
use Rattle.faust_types.specs.Clients.{IsClient}
use Rattle.faust_types.specs.Ranges.{IsOperationNumber, IsTupleFor}
use Rattle.faust_types.specs.Versions.{Vector, digest_at, timestamp_at}
use Rattle.faust_types.specs.declared.operation.Kind.{Kind}
use Rattle.faust_types.specs.declared.message.Tuple.{Tuple}
use Rattle.faust_hash.specs.Chain.{chain_input, chain_of, link}
use Rattle.faust_ustor.specs.declared.walk.Walk.{Walk}
use Rattle.faust_ustor.specs.Checks.{advanced, is_digest_proven, proof_at}
use Rattle.faust_ustor.specs.Hashed.{chain_inputs}
use Rattle.faust_ustor.specs.Passed.{AreTuplesPassed, IsTuplePassed, clients_after}
use Rattle.faust_lists.specs.Lists.{count, last_to, EndsWith}
use Rattle.faust_lists.specs.Names.{Has}
use Rattle.faust_lists.specs.Walks.{AreHashed, IsFree, IsVersionOf, IsWalkOf}
use Rattle.faust_lists.proofs.Counts.{count-other}
use Rattle.faust_lists.proofs.Fronts.{count-last_to, last_to-ended, last_to-ends, last_to-tail}
use Rattle.faust_lists.proofs.Chains.{AreHashed-tail, chain_of-same}
use Rattle.faust_lists.proofs.Versions.{IsWalkOf-advanced}
use Rattle.faust_forks.specs.Books.{Done, Began, Came, Completed, find}
use Rattle.faust_forks.specs.Sources.{of_proof, of_submit}
use Rattle.faust_forks.specs.Pairs.{AreMade, Pair, proof_pairs, tuple_pairs}
use Rattle.faust_forks.specs.Pasts.{Past}
use Rattle.faust_forks.specs.Forks.{IsAnchored, IsBook, IsFork, IsGround}
use Rattle.faust_forks.proofs.Found.{done-named}
use Rattle.faust_forks.proofs.Made.{made-proof, made-submit, proof-made, submit-made, digest-pairs, rest-pairs, next-parts}
use Rattle.faust_forks.proofs.Settled.{begun-cons, settled-cons}

-- a completion of client k whose digest is that of a history up to the last operation of k is that operation
pub anchored-by : (n : ℕ) (past : Past) (k : ℕ) (w : List ℕ) (number : ℕ) (done : Done)
    → IsFree past.hashed → IsBook n past → IsClient n k → AreHashed past.hashed w → find past.book k number ≡ Some done
    → digest_at done.version k ≡ chain_of (last_to k w) → Completed past.book k (count k w) (λ done. done.fork ≡ last_to k w)
anchored-by n past k w number done free book_sound client chains found digest =
    let sound = book_sound k number done found in
    let named = done-named past.book k number done found in
    let ends : EndsWith k done.fork = subst (λ (z : ℕ). EndsWith z done.fork) named.is_client sound.ends in
    let counted : count k done.fork ≡ done.number = subst (λ (z : ℕ). count z done.fork ≡ done.number) named.is_client sound.counted in
    let whole : digest_at done.version k ≡ chain_of done.fork =
    sound.version.digests k client ∙ ap chain_of (last_to-ended k done.fork ends) in
    let same : done.fork ≡ last_to k w = chain_of-same past.hashed done.fork (last_to k w) free sound.fork.chains
    (AreHashed-tail past.hashed (last_to k w) w chains (last_to-tail k w)) (sym whole ∙ digest) in
    let numbered : number ≡ count k w =
    sym named.is_number ∙ sym counted ∙ ap (λ (z : List ℕ). count k z) same ∙ count-last_to k w in
    record { done = done; found = subst (λ (z : ℕ). find past.book k z ≡ Some done) numbered found; fits_it = same }

-- A history that isn't empty has a chain digest.
record HasChain (w : List ℕ) : Type 0 where
  digest : List ℕ
  is_digest : chain_of w ≡ Some digest

chain-some : (k : ℕ) (w : List ℕ) → EndsWith k w → HasChain w
chain-some k [] ends = absurd ends
chain-some k (x ∷ w) ends = record { digest = link (chain_of w) x; is_digest = refl }

-- the digest that is held of a client is proven, so its last operation completed
pub anchored-proven : (n : ℕ) (past : Past) (key : List ℕ) (k : ℕ) (v : Vector) (w : List ℕ) (proof : Option (List ℕ))
    → IsGround n past → IsClient n k → IsVersionOf n v w → AreHashed past.hashed w
    → AreMade key past.made (proof_pairs k (digest_at v k) proof) → is_digest_proven key k (digest_at v k) proof ≡ true
    → IsAnchored past.book k w
anchored-proven n past key k v w proof ground client version chains pairs right =
    elim (cases_lt 0 (count k w)) [
      | inl some ↦
          let there = chain-some k (last_to k w) (last_to-ends k w (omega (arith, some))) in
          let held : digest_at v k ≡ Some there.digest = version.digests k client ∙ there.is_digest in
          let has : Has past.made (of_proof k there.digest) =
          made-proof past.made k there.digest (proof-made key past.made k (digest_at v k) proof there.digest pairs right held) in
          let came : Came past.book k (λ done. digest_at done.version k ≡ Some there.digest) =
          ground.explained (of_proof k there.digest) has in
          inr (anchored-by n past k w came.number came.done ground.free ground.sound client chains came.found
          (came.fits_it ∙ sym there.is_digest))
      | inr none ↦ inl (omega (arith, none))
    ]

-- the tuple is of the next operation of its client, which began
pub begun-submitted : (n : ℕ) (past : Past)
    (k : ℕ) (kind : Kind) (register t number : ℕ) → IsGround n past → Has past.made (of_submit k kind register t)
    → t ≡ number → Began past.started k number (λ begun. begun.entry < past.entry)
begun-submitted n past k kind register t number ground has same =
    let began : Began past.started k t (λ begun. (begun.kind ≡ kind) × (begun.register ≡ register)) =
    ground.explained (of_submit k kind register t) has in
    subst (λ (z : ℕ). Began past.started k z (λ begun. begun.entry < past.entry)) same
    (record { begun = began.begun; found = began.found; fits_it = ground.begun_before k t began.begun began.found })

-- one tuple
pub fork-tuple : (n : ℕ) (past : Past) (key : List ℕ) (me : ℕ) (proofs : List (Option (List ℕ))) (behind : List Pair)
    (walk : Walk) (w : List ℕ) (tuple : Tuple) (rest : List Tuple) → IsGround n past → IsWalkOf n walk w → IsFork n past past.entry w
    → IsTuplePassed key me proofs walk tuple → IsTupleFor n tuple → AreMade key past.made (tuple_pairs proofs behind walk (tuple ∷ rest))
    → Has past.hashed (chain_input walk.digest tuple.client) → IsFork n past past.entry (tuple.client ∷ w)
fork-tuple n past key me proofs behind walk w tuple rest ground at fork passed range pairs has =
    let k = tuple.client in
    let client = range.client_in_range in
    let anchored : IsAnchored past.book k w = anchored-proven n past key k walk.version w (proof_at proofs k) ground client
    at.version fork.chains (digest-pairs key past.made proofs behind walk tuple rest pairs) passed.proven in
    let room : timestamp_at walk.version k + 1 < 2 ^ 40 = ltb-true _ _ (next-parts key walk tuple passed.submitted).room in
    let number : IsOperationNumber (timestamp_at walk.version k + 1) = record { from_one = omega arith; below = room } in
    let submitted : Has past.made (of_submit k tuple.kind tuple.register (timestamp_at walk.version k + 1)) =
    made-submit n past.made k tuple.kind tuple.register (timestamp_at walk.version k + 1) ground.sources number
    (submit-made key past.made walk tuple (tuple_pairs proofs behind (advanced walk k) rest)
    (rest-pairs key past.made proofs behind walk tuple rest pairs passed.submitted) passed.submitted) in
    let counted : timestamp_at walk.version k + 1 ≡ suc (count k w) = omega (arith, at.version.timestamps k client) in
    record {
      clients = (client, fork.clients);
      settled = settled-cons n past.book k w fork.settled anchored;
      begun_before = begun-cons n past.started past.entry k w fork.begun_before
          (begun-submitted n past k tuple.kind tuple.register (timestamp_at walk.version k + 1) (suc (count k w))
          ground submitted counted);
      chains = (subst (λ (d : Option (List ℕ)). Has past.hashed (chain_input d k)) at.digest has, fork.chains);
    }

-- all tuples
pub fork-along : (n : ℕ) (past : Past) (key : List ℕ) (me : ℕ) (proofs : List (Option (List ℕ))) (behind : List Pair)
    (walk : Walk) (w : List ℕ) (tuples : List Tuple) → IsGround n past → IsWalkOf n walk w → IsFork n past past.entry w
    → AreTuplesPassed key me proofs walk tuples → AllByRecursion (IsTupleFor n) tuples
    → AreMade key past.made (tuple_pairs proofs behind walk tuples)
    → ((x : List ℕ) → Has (chain_inputs walk tuples) x → Has past.hashed x)
    → IsFork n past past.entry (clients_after w tuples)
fork-along n past key me proofs behind walk w [] ground at fork passed range pairs has = fork
fork-along n past key me proofs behind walk w (tuple ∷ rest) ground at fork passed range pairs has =
    let k = tuple.client in
    let step : IsFork n past past.entry (k ∷ w) = fork-tuple n past key me proofs behind walk w tuple rest
    ground at fork passed.0 range.0 pairs (has _ (inl refl)) in
    let more = rest-pairs key past.made proofs behind walk tuple rest pairs passed.0.submitted in
    fork-along n past key me proofs behind (advanced walk k) (k ∷ w) rest ground
    (IsWalkOf-advanced n walk w k at range.0.client_in_range) step passed.1 range.1 (λ pair has right. more pair (inr has) right)
    (λ x within. has x (inr within))

-- no tuple is of the own client
pub count-after : (key : List ℕ) (me : ℕ) (proofs : List (Option (List ℕ))) (walk : Walk) (w : List ℕ) (tuples : List Tuple)
    → AreTuplesPassed key me proofs walk tuples → count me (clients_after w tuples) ≡ count me w
count-after key me proofs walk w [] passed = refl
count-after key me proofs walk w (tuple ∷ rest) passed =
    count-after key me proofs (advanced walk tuple.client) (tuple.client ∷ w) rest passed.1
    ∙ count-other me tuple.client w passed.0.of_another
