-- What a walk counts, and of which chain its digest is.
use Rattle.std.proofs.Common.{◌≡◌, ◌≢◌, ℕ, ◌+◌, ◌-◌, ◌≤◌, suc, List, [], ◌∷◌, Option, Some, None, refl, sym, ap, ◌∙◌, subst, inl, inr, arith, length-set}
use Rattle.std.specs.List.{AllByRecursion}
use Rattle.std.proofs.lemmas.Bool.{cond-true, cond-false, cases_eq, eq-eqb, ne_eqb}
use Rattle.faust_types.specs.Clients.{IsClient}
use Rattle.faust_types.specs.Versions.{Vector, clients_of, timestamp_at}
use Rattle.faust_types.specs.Messages.{tuples_by}
use Rattle.faust_types.specs.Ranges.{IsReplyFor, IsTupleFor}
use Rattle.faust_types.specs.declared.message.ReadPart.{ReadPart}
use Rattle.faust_types.specs.declared.message.Reply.{Reply}
use Rattle.faust_types.specs.declared.message.Tuple.{Tuple}
use Rattle.faust_types.proofs.Entries.{timestamp-with_entry, timestamp-with_entry_other}
use Rattle.faust_hash.specs.Chain.{chain_of, link}
use Rattle.faust_ustor.specs.declared.walk.Walk.{Walk}
use Rattle.faust_ustor.specs.Checks.{advanced, begun}
use Rattle.faust_ustor.specs.Passed.{followed, clients_after, AreTuplesPassed, next_of, told_of}

-- One more operation of client k.
pub clients-advanced : (walk : Walk) (k : ℕ) → clients_of (advanced walk k).version ≡ clients_of walk.version
clients-advanced walk k = length-set walk.version.timestamps (k - 1) (timestamp_at walk.version k + 1)

pub timestamp-advanced : (walk : Walk) (k : ℕ) → IsClient (clients_of walk.version) k
    → timestamp_at (advanced walk k).version k ≡ timestamp_at walk.version k + 1
timestamp-advanced walk k c = timestamp-with_entry walk.version k (timestamp_at walk.version k + 1) (link walk.digest k) c

pub timestamp-advanced_other : (walk : Walk) (k j : ℕ) → 1 ≤ k → 1 ≤ j → (j ≡ k → ⊥)
    → timestamp_at (advanced walk k).version j ≡ timestamp_at walk.version j
timestamp-advanced_other walk k j lk lj ne = timestamp-with_entry_other walk.version k (timestamp_at walk.version k + 1)
    (link walk.digest k) j lk lj ne

-- A walk keeps the number of clients.
pub clients-followed : (walk : Walk) (tuples : List Tuple) → clients_of (followed walk tuples).version ≡ clients_of walk.version
clients-followed walk [] = refl
clients-followed walk (tuple ∷ rest) = clients-followed (advanced walk tuple.client) rest ∙ clients-advanced walk tuple.client

-- Each tuple counts one more operation of its client.
pub timestamp-followed : (n : ℕ) (walk : Walk) (tuples : List Tuple) (k : ℕ) → clients_of walk.version ≡ n → IsClient n k
    → AllByRecursion (IsTupleFor n) tuples
    → timestamp_at (followed walk tuples).version k ≡ timestamp_at walk.version k + tuples_by k tuples
timestamp-followed n walk [] k sized c all = omega arith
timestamp-followed n walk (tuple ∷ rest) k sized c all =
    let by = all.0.client_in_range in
    let more = timestamp-followed n (advanced walk tuple.client) rest k (clients-advanced walk tuple.client ∙ sized) c all.1 in
    elim (cases_eq tuple.client k) [
      | inl same ↦
          let here : IsClient (clients_of walk.version) k = record { from_one = c.from_one; to_n = omega (arith, c.to_n, sized) } in
          let one : timestamp_at (advanced walk tuple.client).version k ≡ timestamp_at walk.version k + 1 =
          subst (λ (m : ℕ). timestamp_at (advanced walk m).version k ≡ timestamp_at walk.version k + 1) (sym same)
          (timestamp-advanced walk k here) in
          let counted : tuples_by k (tuple ∷ rest) ≡ suc (tuples_by k rest) = cond-true _ _ _ (eq-eqb _ _ same) in
          omega (arith, more, one, counted)
      | inr other ↦
          let none = timestamp-advanced_other walk tuple.client k by.from_one c.from_one (λ e. other (sym e)) in
          let counted : tuples_by k (tuple ∷ rest) ≡ tuples_by k rest = cond-false _ _ _ (ne_eqb _ _ other) in
          omega (arith, more, none, counted)
    ]

-- None of the tuples that pass is by the own client.
pub tuples_by-own : (key : List ℕ) (me : ℕ) (proofs : List (Option (List ℕ))) (walk : Walk) (tuples : List Tuple)
    → AreTuplesPassed key me proofs walk tuples → tuples_by me tuples ≡ 0
tuples_by-own key me proofs walk [] h = refl
tuples_by-own key me proofs walk (tuple ∷ rest) h =
    cond-false _ _ _ (ne_eqb _ _ h.0.of_another) ∙ tuples_by-own key me proofs (advanced walk tuple.client) rest h.1

-- What is told has the next version.
pub next-told : (next : Vector) (read : Option ReadPart) → (told_of next read).next ≡ next
next-told next None = refl
next-told next (Some part) = refl

-- The next version counts the tuples of another client, and the own operation.
pub timestamp-next_other : (n me k : ℕ) (reply : Reply) → IsReplyFor n reply → IsClient n me → IsClient n k → k ≢ me
    → timestamp_at (next_of me reply) k ≡ timestamp_at reply.version.version k + tuples_by k reply.pending
timestamp-next_other n me k reply h own c other =
    let last = timestamp-advanced_other (followed (begun reply) reply.pending) me k own.from_one c.from_one other in
    last ∙ timestamp-followed n (begun reply) reply.pending k h.version_known.version_in_range.count c h.pending_in_range

pub timestamp-next_own : (key : List ℕ) (n me : ℕ) (reply : Reply) → IsReplyFor n reply → IsClient n me
    → AreTuplesPassed key me reply.proofs (begun reply) reply.pending
    → timestamp_at (next_of me reply) me ≡ timestamp_at reply.version.version me + 1
timestamp-next_own key n me reply h own passed =
    let sized = h.version_known.version_in_range.count in
    let here : IsClient (clients_of (followed (begun reply) reply.pending).version) me =
    record { from_one = own.from_one; to_n = omega (arith, own.to_n, sized, clients-followed (begun reply) reply.pending) } in
    let last = timestamp-advanced (followed (begun reply) reply.pending) me here in
    let along = timestamp-followed n (begun reply) reply.pending me sized own h.pending_in_range in
    omega (arith, last, along, tuples_by-own key me reply.proofs (begun reply) reply.pending passed)

-- The digest is that of the chain of all clients so far.
pub digest_followed : (walk : Walk) (tuples : List Tuple) (clients : List ℕ) → walk.digest ≡ chain_of clients
    → (followed walk tuples).digest ≡ chain_of (clients_after clients tuples)
digest_followed walk [] clients h = h
digest_followed walk (tuple ∷ rest) clients h =
    digest_followed (advanced walk tuple.client) rest (tuple.client ∷ clients) (ap (λ (d : Option (List ℕ)). Some (link d tuple.client)) h)
