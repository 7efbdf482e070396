-- A walk over two lists of tuples, one behind the other, and the digests that a walk leaves in its version.
use Rattle.std.proofs.Common.{◌≡◌, ℕ, ◌+◌, ◌-◌, ◌≤◌, suc, List, [], ◌∷◌, ◌++◌, length, Option, Some, refl, sym, ap, ◌∙◌, inl, inr, arith, length-set}
use Rattle.std.specs.List.{AllByRecursion}
use Rattle.std.proofs.lemmas.Bool.{cond-true, cond-false, cases_eq, eq-eqb, ne_eqb}
use Rattle.faust_types.specs.Clients.{IsClient}
use Rattle.faust_types.specs.Versions.{digest_at, timestamp_at}
use Rattle.faust_types.specs.Messages.{tuples_by}
use Rattle.faust_types.specs.Ranges.{IsReplyFor, IsTupleFor}
use Rattle.faust_types.specs.declared.message.Reply.{Reply}
use Rattle.faust_types.specs.declared.message.Tuple.{Tuple}
use Rattle.faust_types.proofs.Entries.{digest-with_entry, digest-with_entry_other}
use Rattle.faust_hash.specs.Chain.{chain_of, link}
use Rattle.faust_ustor.specs.declared.walk.Walk.{Walk}
use Rattle.faust_ustor.specs.Checks.{advanced, begun}
use Rattle.faust_ustor.specs.Passed.{AreTuplesPassed, clients_after, followed, next_of}
use Rattle.faust_ustor.proofs.Counts.{digest_followed}

-- A walk over two lists goes over the second from where it came to over the first.
pub followed-append : (walk : Walk) (xs ys : List Tuple) → followed walk (xs ++ ys) ≡ followed (followed walk xs) ys
followed-append walk [] ys = refl
followed-append walk (tuple ∷ xs) ys = followed-append (advanced walk tuple.client) xs ys

-- Two lists pass where the first does, and the second does from there on.
pub passed-append : (key : List ℕ) (me : ℕ) (proofs : List (Option (List ℕ))) (walk : Walk) (xs ys : List Tuple)
    → AreTuplesPassed key me proofs walk xs → AreTuplesPassed key me proofs (followed walk xs) ys
    → AreTuplesPassed key me proofs walk (xs ++ ys)
passed-append key me proofs walk [] ys h more = more
passed-append key me proofs walk (tuple ∷ xs) ys h more =
    (h.0, passed-append key me proofs (advanced walk tuple.client) xs ys h.1 more)

-- One more operation of client k leaves the chain's digest in the place of k.
pub digest-advanced : (n : ℕ) (walk : Walk) (k : ℕ) → length walk.version.digests ≡ n → IsClient n k
    → digest_at (advanced walk k).version k ≡ Some (link walk.digest k)
digest-advanced n walk k sized c =
    digest-with_entry walk.version k (timestamp_at walk.version k + 1) (link walk.digest k) c.from_one (omega (arith, c.to_n, sized))

-- It leaves the digests of the others as they are.
pub digest-advanced_other : (walk : Walk) (k j : ℕ) → 1 ≤ k → 1 ≤ j → (j ≡ k → ⊥)
    → digest_at (advanced walk k).version j ≡ digest_at walk.version j
digest-advanced_other walk k j lk lj ne =
    digest-with_entry_other walk.version k (timestamp_at walk.version k + 1) (link walk.digest k) j lk lj ne

-- The number of digests stays.
pub digests-advanced : (walk : Walk) (k : ℕ) → length (advanced walk k).version.digests ≡ length walk.version.digests
digests-advanced walk k = length-set walk.version.digests (k - 1) (Some (link walk.digest k))

pub digests-followed : (walk : Walk) (tuples : List Tuple)
    → length (followed walk tuples).version.digests ≡ length walk.version.digests
digests-followed walk [] = refl
digests-followed walk (tuple ∷ rest) =
    digests-followed (advanced walk tuple.client) rest ∙ digests-advanced walk tuple.client

-- A client that no tuple is by keeps its digest.
pub digest-followed_other : (n : ℕ) (walk : Walk) (tuples : List Tuple) (k : ℕ) → IsClient n k
    → AllByRecursion (IsTupleFor n) tuples → tuples_by k tuples ≡ 0
    → digest_at (followed walk tuples).version k ≡ digest_at walk.version k
digest-followed_other n walk [] k c all none = refl
digest-followed_other n walk (tuple ∷ rest) k c all none =
    elim (cases_eq tuple.client k) [
      | inl same ↦
          let counted : tuples_by k (tuple ∷ rest) ≡ suc (tuples_by k rest) = cond-true _ _ _ (eq-eqb _ _ same) in
          absurd (omega (arith, none, counted))
      | inr other ↦
          let counted : tuples_by k (tuple ∷ rest) ≡ tuples_by k rest = cond-false _ _ _ (ne_eqb _ _ other) in
          digest-followed_other n (advanced walk tuple.client) rest k c all.1 (sym counted ∙ none)
          ∙ digest-advanced_other walk tuple.client k all.0.client_in_range.from_one c.from_one (λ e. other (sym e))
    ]

-- The digest of a client is that of the chain up to the last tuple that is by it.
pub digest-followed : (n : ℕ) (walk : Walk) (xs : List Tuple) (tuple : Tuple) (ys : List Tuple)
    → length walk.version.digests ≡ n → AllByRecursion (IsTupleFor n) (tuple ∷ ys) → tuples_by tuple.client ys ≡ 0
    → digest_at (followed walk (xs ++ tuple ∷ ys)).version tuple.client ≡ Some (link (followed walk xs).digest tuple.client)
digest-followed n walk xs tuple ys sized all none =
    let here = followed walk xs in
    let k = tuple.client in
    ap (λ (w : Walk). digest_at w.version k) (followed-append walk xs (tuple ∷ ys))
    ∙ digest-followed_other n (advanced here k) ys k all.0.client_in_range all.1 none
    ∙ digest-advanced n here k (digests-followed walk xs ∙ sized) all.0.client_in_range

-- The own digest of the next version is that of the chain of all clients, the own one last.
pub digest-next_own : (n me : ℕ) (reply : Reply) (clients : List ℕ) → IsReplyFor n reply → IsClient n me
    → digest_at reply.version.version reply.c ≡ chain_of clients
    → digest_at (next_of me reply) me ≡ chain_of (me ∷ clients_after clients reply.pending)
digest-next_own n me reply clients h own start =
    let range = h.version_known.version_in_range in
    let sized : length reply.version.version.digests ≡ n = range.kept.paired ∙ range.count in
    digest-advanced n (followed (begun reply) reply.pending) me (digests-followed (begun reply) reply.pending ∙ sized) own
    ∙ ap (λ (d : Option (List ℕ)). Some (link d me)) (digest_followed (begun reply) reply.pending clients start)

-- The digests of the others in the next version are those after the tuples.
pub digest-next_other : (n me k : ℕ) (reply : Reply) → IsClient n me → IsClient n k → (k ≡ me → ⊥)
    → digest_at (next_of me reply) k ≡ digest_at (followed (begun reply) reply.pending).version k
digest-next_other n me k reply own c other =
    digest-advanced_other (followed (begun reply) reply.pending) me k own.from_one c.from_one other
