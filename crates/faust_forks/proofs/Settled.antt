-- Histories whose operations completed and began: their fronts, one operation more, and what is found later.
use Rattle.std.proofs.Common.{◌≡◌, ℕ, ◌<◌, ◌≤◌, suc, List, [], ◌∷◌, sym, ◌∙◌, subst, inl, inr, arith}
use Rattle.std.proofs.lemmas.Bool.{cases_eq, cases_lt}
use Rattle.faust_types.specs.Clients.{IsClient}
use Rattle.faust_lists.specs.Lists.{count, upto, last_to, IsTail, AreClients, EndsWith}
use Rattle.faust_lists.proofs.Counts.{count-own, count-other, upto-more}
use Rattle.faust_lists.proofs.Tails.{count-tail, AreClients-tail}
use Rattle.faust_lists.proofs.Fronts.{upto-stable}
use Rattle.faust_lists.proofs.Chains.{AreHashed-more, AreHashed-tail}
use Rattle.faust_forks.specs.Books.{Begun, Done, Began, Completed}
use Rattle.faust_forks.specs.Pasts.{IsLater, Past}
use Rattle.faust_forks.specs.Forks.{IsSettled, IsAnchored, AreBegun, IsFork, IsSound}
use Rattle.faust_forks.proofs.Found.{Began-more, Began-less, Completed-more, Completed-less}

-- the last client is one of n
pub ends-client : (n k : ℕ) (w : List ℕ) → AreClients n w → EndsWith k w → IsClient n k
ends-client n k [] clients ends = absurd ends
ends-client n k (x ∷ w) clients ends = subst (λ (z : ℕ). IsClient n z) ends clients.0

pub ends-counted : (k : ℕ) (w : List ℕ) → EndsWith k w → 1 ≤ count k w
ends-counted k [] ends = absurd ends
ends-counted k (x ∷ w) ends = omega (arith, count-own k x w ends)

anchored-some : (book : List Done) (k : ℕ) (w : List ℕ) → IsAnchored book k w → 1 ≤ count k w
    → Completed book k (count k w) (λ done. done.fork ≡ last_to k w)
anchored-some book k w (inl none) some = absurd (omega (arith, none, some))
anchored-some book k w (inr h) some = h

-- one operation more of a client whose last one completed with the front that ends with it
pub settled-cons : (n : ℕ) (book : List Done) (k : ℕ) (w : List ℕ) → IsSettled n book w → IsAnchored book k w
    → IsSettled n book (k ∷ w)
settled-cons n book k w h anchored = λ j t c one lt.
    let same_front : t ≤ count j w → (done : Done) → done.fork ≡ upto j t w → done.fork ≡ upto j t (k ∷ w) =
    λ le done e. e ∙ sym (upto-more j t k w le) in
    elim (cases_lt t (count j w)) [
      | inl before ↦
          Completed-less book j t (λ done. done.fork ≡ upto j t w) (λ done. done.fork ≡ upto j t (k ∷ w))
          (same_front (omega (arith, before))) (h j t c one before)
      | inr at ↦ elim (cases_eq k j) [
        | inl e ↦
            let counted : count j (k ∷ w) ≡ suc (count j w) = count-own j k w e in
            let last : t ≡ count j w = omega (arith, at, lt, counted) in
            let own : IsAnchored book j w = subst (λ (z : ℕ). IsAnchored book z w) e anchored in
            let there : Completed book j (count j w) (λ done. done.fork ≡ upto j (count j w) w) =
            anchored-some book j w own (omega (arith, one, last)) in
            let found : Completed book j t (λ done. done.fork ≡ upto j t w) =
            subst (λ (z : ℕ). Completed book j z (λ done. done.fork ≡ upto j z w)) (sym last) there in
            Completed-less book j t (λ done. done.fork ≡ upto j t w) (λ done. done.fork ≡ upto j t (k ∷ w))
            (same_front (omega (arith, last))) found
        | inr ne ↦ absurd (omega (arith, at, lt, count-other j k w ne))
      ]
    ]

pub settled-tail : (n : ℕ) (book : List Done) (u w : List ℕ) → IsSettled n book w → IsTail u w → IsSettled n book u
settled-tail n book u w h front = λ k t c one lt.
    Completed-less book k t (λ done. done.fork ≡ upto k t w) (λ done. done.fork ≡ upto k t u)
    (λ done e. e ∙ upto-stable k t u w front (omega (arith, lt)))
    (h k t c one (omega (arith, lt, count-tail k u w front)))

pub begun-tail : (n : ℕ) (started : List Begun) (entry : ℕ) (u w : List ℕ) → AreBegun n started entry w → IsTail u w
    → AreBegun n started entry u
begun-tail n started entry u w h front = λ k t c one le. h k t c one (omega (arith, le, count-tail k u w front))

-- one operation more that began
pub begun-cons : (n : ℕ) (started : List Begun) (entry k : ℕ) (w : List ℕ) → AreBegun n started entry w
    → Began started k (suc (count k w)) (λ begun. begun.entry < entry) → AreBegun n started entry (k ∷ w)
begun-cons n started entry k w h next = λ j t c one le.
    elim (cases_lt (count j w) t) [
      | inl beyond ↦ elim (cases_eq k j) [
        | inl e ↦
            let last : suc (count j w) ≡ t = omega (arith, beyond, le, count-own j k w e) in
            let here : Began started j (suc (count j w)) (λ begun. begun.entry < entry) =
            subst (λ (z : ℕ). Began started z (suc (count z w)) (λ begun. begun.entry < entry)) e next in
            subst (λ (z : ℕ). Began started j z (λ begun. begun.entry < entry)) last here
        | inr ne ↦ absurd (omega (arith, beyond, le, count-other j k w ne))
      ]
      | inr within ↦ h j t c one within
    ]

-- nothing is asked of the empty history
pub fork-nil : (n : ℕ) (past : Past) (entry : ℕ) → IsFork n past entry []
fork-nil n past entry = record {
  clients = tt;
  settled = λ k t c one lt. absurd (omega (arith, lt));
  begun_before = λ k t c one le. absurd (omega (arith, one, le));
  chains = tt;
}

pub fork-tail : (n : ℕ) (past : Past) (entry : ℕ) (u w : List ℕ) → IsFork n past entry w → IsTail u w → IsFork n past entry u
fork-tail n past entry u w h front = record {
  clients = AreClients-tail n u w h.clients front;
  settled = settled-tail n past.book u w h.settled front;
  begun_before = begun-tail n past.started entry u w h.begun_before front;
  chains = AreHashed-tail past.hashed u w h.chains front;
}

-- what an entry may know, a later one may know
pub fork-later : (n : ℕ) (past later : Past) (entry next : ℕ) (w : List ℕ) → IsLater past later → entry ≤ next → IsFork n past entry w
    → IsFork n later next w
fork-later n past later entry next w grows le h = record {
  clients = h.clients;
  settled = λ k t c one lt.
      Completed-more past.book later.book k t (λ done. done.fork ≡ upto k t w) grows.done_kept (h.settled k t c one lt);
  begun_before = λ k t c one within.
      Began-less later.started k t (λ begun. begun.entry < entry) (λ begun. begun.entry < next)
      (λ begun before. omega (arith, before, le))
      (Began-more past.started later.started k t (λ begun. begun.entry < entry) grows.begun_kept (h.begun_before k t c one within));
  chains = AreHashed-more past.hashed later.hashed w grows.hashed_kept h.chains;
}

-- what is sound stays sound
pub sound-later : (n : ℕ) (past later : Past) (done : Done) → IsLater past later → IsSound n past done → IsSound n later done
sound-later n past later done grows h = record {
  ends = h.ends;
  counted = h.counted;
  version = h.version;
  fork = fork-later n past later done.entry done.entry done.fork grows (omega arith) h.fork;
}
