-- The last completed operation of a client.
use Rattle.std.proofs.Common.{◌≡◌, ◌⊎◌, ℕ, ◌≤◌, List, [], ◌∷◌, Option, None, Some, max, refl, sym, ap, ◌∙◌, subst, inl, inr, arith}
use Rattle.std.proofs.lemmas.Bool.{cases_eq, cases_lt, cond-true, cond-false, eq-eqb, ne_eqb}
use Rattle.faust_lists.specs.Lists.{IsTail}
use Rattle.faust_lists.proofs.Fronts.{upto-tail}
use Rattle.faust_forks.specs.Books.{Begun, Done, Completed, find}
use Rattle.faust_forks.specs.Pasts.{fork_of}
use Rattle.faust_forks.proofs.Found.{Completed-more, done-cases, done-first, done-more, done-named, found-none}
use Rattle.faust_forks.proofs.Settled.{ends-counted}
use Rattle.faust_names.specs.ForkViews.{last_fork, last_number}
use Rattle.faust_names.specs.Chronicles.{IsChronicle, IsForkOf, IsKnown}
use Rattle.faust_names.proofs.Known.{known-nil, own-front}

last-own : (book : List Done) (added : Done) (i : ℕ) → added.client ≡ i
    → last_number (added ∷ book) i ≡ max added.number (last_number book i)
last-own book added i e = cond-true _ _ _ (eq-eqb added.client i e)

last-other : (book : List Done) (added : Done) (i : ℕ) → (added.client ≡ i → ⊥) → last_number (added ∷ book) i ≡ last_number book i
last-other book added i ne = cond-false _ _ _ (ne_eqb added.client i ne)

-- no completion of the client has a greater number
pub last-most : (book : List Done) (i t : ℕ) (done : Done) → find book i t ≡ Some done → t ≤ last_number book i
last-most [] i t done h = absurd (found-none (find [] i t) done refl h)
last-most (added ∷ book) i t done h =
    let of_i = done-named (added ∷ book) i t done h in
    elim (done-cases book added i t done h) [
      | inl old ↦
          let before = last-most book i t done old in
          elim (cases_eq added.client i) [
            | inl e ↦ omega (arith, before, last-own book added i e)
            | inr ne ↦ omega (arith, before, last-other book added i ne)
          ]
      | inr same ↦
          let client : added.client ≡ i = ap (λ (z : Done). z.client) same ∙ of_i.is_client in
          let number : added.number ≡ t = ap (λ (z : Done). z.number) same ∙ of_i.is_number in
          omega (arith, number, last-own book added i client)
    ]

added-found : (book : List Done) (added : Done) (i : ℕ) (found : Option Done) → find book i added.number ≡ found → added.client ≡ i
    → Completed (added ∷ book) i added.number (λ done. Unit {0})
added-found book added i None is client =
    record { done = added; found = done-first book added i added.number is client refl; fits_it = tt }
added-found book added i (Some old) is client =
    record { done = old; found = done-more book added i added.number old is; fits_it = tt }

last-kept : (book : List Done) (added : Done) (i : ℕ) → last_number (added ∷ book) i ≡ last_number book i
    → (last_number book i ≡ 0) ⊎ Completed book i (last_number book i) (λ done. Unit {0})
    → (last_number (added ∷ book) i ≡ 0) ⊎ Completed (added ∷ book) i (last_number (added ∷ book) i) (λ done. Unit {0})
last-kept book added i same (inl none) = inl (same ∙ none)
last-kept book added i same (inr old) =
    inr (subst (λ (z : ℕ). Completed (added ∷ book) i z (λ done. Unit {0})) (sym same)
    (Completed-more book (added ∷ book) i (last_number book i) (λ done. Unit {0}) (done-more book added) old))

-- there is one of that number
pub last-is : (book : List Done) (i : ℕ) → (last_number book i ≡ 0) ⊎ Completed book i (last_number book i) (λ done. Unit {0})
last-is [] i = inl refl
last-is (added ∷ book) i =
    let old = last-is book i in
    elim (cases_eq added.client i) [
      | inl e ↦ elim (cases_lt (last_number book i) added.number) [
        | inl lt ↦
            let here : last_number (added ∷ book) i ≡ added.number = omega (arith, lt, last-own book added i e) in
            inr (subst (λ (z : ℕ). Completed (added ∷ book) i z (λ done. Unit {0})) (sym here)
            (added-found book added i (find book i added.number) refl e))
        | inr ge ↦
            let here : last_number (added ∷ book) i ≡ last_number book i = omega (arith, ge, last-own book added i e) in
            last-kept book added i here old
      ]
      | inr ne ↦ last-kept book added i (last-other book added i ne) old
    ]

last-some : (book : List Done) (i t : ℕ) → 1 ≤ t → t ≤ last_number book i
    → (last_number book i ≡ 0) ⊎ Completed book i (last_number book i) (λ done. Unit {0})
    → Completed book i (last_number book i) (λ done. Unit {0})
last-some book i t one le (inl none) = absurd (omega (arith, one, le, none))
last-some book i t one le (inr last) = last

-- the fork of each completion of the client is a front of the last one's
pub last-front : (n : ℕ) (started : List Begun) (book : List Done) (i t : ℕ) (x : Done) → IsChronicle n started book
    → find book i t ≡ Some x → IsTail x.fork (last_fork book i)
last-front n started book i t x chronicle found =
    let of_x = chronicle.forks i t x found in
    let most = last-most book i t x found in
    let one : 1 ≤ t = omega (arith, of_x.counted, ends-counted i x.fork of_x.ends) in
    let last = last-some book i t one most (last-is book i) in
    let front : IsTail x.fork last.done.fork = subst (λ (z : List ℕ). IsTail z last.done.fork)
    (sym (own-front n started book i t (last_number book i) x last.done chronicle found last.found most))
    (upto-tail i t last.done.fork) in
    subst (λ (z : List ℕ). IsTail x.fork z) (sym (ap fork_of last.found)) front

-- What is known of the last fork, by some entry.
pub record IsKnownByEnd (n : ℕ) (started : List Begun) (book : List Done) (w : List ℕ) : Type 0 where
  pub entry : ℕ
  pub known : IsKnown n started book entry w

pub found-known : (n : ℕ) (started : List Begun) (book : List Done) (k t : ℕ) (found : Option Done)
    → ((done : Done) → found ≡ Some done → IsForkOf n started book k t done) → IsKnownByEnd n started book (fork_of found)
found-known n started book k t None each = record { entry = 0; known = known-nil n started book }
found-known n started book k t (Some done) each = record { entry = done.entry; known = (each done refl).known }

pub last-known : (n : ℕ) (started : List Begun) (book : List Done) (i : ℕ) → IsChronicle n started book
    → IsKnownByEnd n started book (last_fork book i)
last-known n started book i chronicle =
    found-known n started book i (last_number book i) (find book i (last_number book i)) (chronicle.forks i (last_number book i))
