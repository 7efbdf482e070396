-- The operations of a fork, by their names.
use Rattle.std.proofs.Common.{◌≡◌, ℕ, ◌+◌, ◌<◌, ◌≤◌, suc, true, List, [], ◌∷◌, ◌++◌, refl, sym, ap, ◌∙◌, subst, inl, inr, arith}
use Rattle.faust_types.specs.Versions.{Vector, initial, timestamp_at}
use Rattle.faust_types.specs.declared.message.Reply.{Reply}
use Rattle.faust_types.specs.declared.message.Tuple.{Tuple}
use Rattle.faust_types.specs.declared.operation.OpName.{OpName}
use Rattle.faust_types.specs.declared.operation.Operation.{Operation}
use Rattle.faust_ustor.specs.Passed.{clients_after}
use Rattle.faust_lists.specs.Lists.{AreClients, count, upto}
use Rattle.faust_lists.specs.Names.{Has, IsKept, names}
use Rattle.faust_lists.specs.Walks.{IsVersionOf}
use Rattle.faust_lists.proofs.Sifted.{kept-has}
use Rattle.faust_lists.proofs.Tails.{count-append}
use Rattle.faust_lists.proofs.Versions.{AreClients-after}
use Rattle.faust_forks.specs.Books.{Began, Completed}
use Rattle.faust_forks.specs.Pasts.{Past, base_of, fork_after, names_since}
use Rattle.faust_forks.specs.Forks.{IsAccepted, IsBook, IsFork, IsGround, IsOwn}
use Rattle.faust_forks.proofs.Completing.{reached}
use Rattle.faust_forks.proofs.Ordered.{found-of}
use Rattle.faust_forks.proofs.Answering.{counted-client}

-- each is an operation that began before
pub named-began : (n : ℕ) (past : Past) (entry : ℕ) (w : List ℕ) (a : OpName)
    → IsFork n past entry w → Has (names w) a → Began past.started a.client a.t (λ begun. begun.entry < entry)
named-began n past entry w a fork has =
    let kept : IsKept (λ front. true) w a = kept-has (λ front. true) w a has in
    let client = counted-client n a.client w fork.clients (omega (arith, kept.from_one, kept.within)) in
    fork.begun_before a.client a.t client kept.from_one kept.within

-- where one stands and a later one of its client, it completed, and its fork is the front that ends with it
pub named-completed : (n : ℕ) (past : Past) (entry : ℕ) (w : List ℕ) (a b : OpName)
    → IsFork n past entry w → Has (names w) a → Has (names w) b → a.client ≡ b.client → a.t < b.t
    → Completed past.book a.client a.t (λ done. done.fork ≡ upto a.client a.t w)
named-completed n past entry w a b fork in_a in_b same later =
    let first : IsKept (λ front. true) w a = kept-has (λ front. true) w a in_a in
    let second : IsKept (λ front. true) w b = kept-has (λ front. true) w b in_b in
    let within : b.t ≤ count a.client w = subst (λ (z : ℕ). b.t ≤ count z w) (sym same) second.within in
    fork.settled a.client a.t (counted-client n a.client w fork.clients (omega (arith, first.from_one, first.within))) first.from_one
    (omega (arith, later, within))

-- the names of what comes after a version go on counting from it
named-since : (n : ℕ) (v : Vector) (u w : List ℕ) → IsVersionOf n v u → AreClients n w → names (w ++ u) ≡ names_since v w ++ names u
named-since n v u [] version clients = refl
named-since n v u (k ∷ w) version clients =
    let named : ℕ → OpName = λ (t : ℕ). record { client = k; t = t } in
    let rest = named-since n v u w version clients.1 in
    let number : suc (count k (w ++ u)) ≡ suc (timestamp_at v k + count k w) =
    omega (arith, count-append k w u, version.timestamps k clients.0) in
    ap (λ (t : ℕ). named t ∷ names (w ++ u)) number
    ∙ ap (λ (l : List OpName). named (suc (timestamp_at v k + count k w)) ∷ l) rest

clients-behind : (u w : List ℕ) (tuples : List Tuple) → clients_after (u ++ w) tuples ≡ clients_after u tuples ++ w
clients-behind u w [] = refl
clients-behind u w (tuple ∷ rest) = clients-behind (tuple.client ∷ u) w rest

-- the names of a fork: those of the history that the reply's version is of, then those of the tuples and the own
-- operation, numbered by counting on from the version
pub fork-named : (n : ℕ) (past : Past) (key : List ℕ) (me : ℕ) (own : Vector) (op : Operation) (reply : Reply) → IsGround n past
    → IsAccepted n past key me own op reply
    → names (fork_after past.book me reply)
    ≡ names_since reply.version.version (me ∷ clients_after [] reply.pending) ++ names (base_of past.book reply)
fork-named n past key me own op reply ground accepted =
    let at = reached n past key me own op reply ground accepted in
    let w = base_of past.book reply in
    let added : List ℕ = me ∷ clients_after [] reply.pending in
    let whole : fork_after past.book me reply ≡ added ++ w =
    ap (λ (l : List ℕ). me ∷ l) (clients-behind [] w reply.pending) in
    let clients : AreClients n added =
    (accepted.client_in_range, AreClients-after n [] reply.pending tt accepted.reply_in_range.pending_in_range) in
    ap names whole ∙ named-since n reply.version.version w added at.base.version clients

-- a client whose timestamp is 0 owns the initial version
pub own-zero : (n : ℕ) (past : Past) (me : ℕ) (own : Vector) → IsBook n past → IsOwn n past.book me own → timestamp_at own me ≡ 0
    → own ≡ initial n
own-zero n past me own book_sound h none = elim h.held [
  | inl is ↦ is
  | inr came ↦
      let of_me = found-of n past me (timestamp_at own me) came.done book_sound came.found in
      absurd (omega (arith, of_me.some, none))
]
