-- Which operations stay in a view.
use Rattle.std.proofs.Common.{◌≡◌, ◌⊎◌, ℕ, suc, true, false, List, ◌∷◌, Option, None, Some, refl, sym, ap, ◌∙◌, subst, inl, inr}
use Rattle.std.proofs.lemmas.Bool.{or_cases, or_left, or_parts, or_right, true≢false}
use Rattle.std.proofs.lemmas.Slice.Eq.{bytes_eq-Decides}
use Rattle.faust_types.specs.declared.operation.Kind.{Kind}
use Rattle.faust_types.specs.declared.operation.Kind.TheVariants.{Write, Read}
use Rattle.faust_lists.specs.Lists.{count}
use Rattle.faust_forks.specs.Books.{Begun, Done, Began, Completed, find, find_begun}
use Rattle.faust_names.specs.ForkViews.{has_fork, is_kept, is_write, is_writing}

-- a write stays
pub kept-write : (started : List Begun) (book : List Done) (k t : ℕ) (w : List ℕ) (begun : Begun) → t ≡ suc (count k w)
    → find_begun started k t ≡ Some begun → begun.kind ≡ Write → is_kept started book (k ∷ w) ≡ true
kept-write started book k t w begun number found writes =
    let here : find_begun started k (suc (count k w)) ≡ Some begun =
    subst (λ (z : ℕ). find_begun started k z ≡ Some begun) number found in
    or_left (is_write (find_begun started k (suc (count k w)))) (has_fork (find book k (suc (count k w))) (k ∷ w))
    (ap is_write here ∙ ap is_writing writes)

-- what completed stays, where its fork is the front
pub kept-fork : (started : List Begun) (book : List Done) (k t : ℕ) (w : List ℕ) (done : Done) → t ≡ suc (count k w)
    → find book k t ≡ Some done → done.fork ≡ k ∷ w → is_kept started book (k ∷ w) ≡ true
kept-fork started book k t w done number found fork =
    let here : find book k (suc (count k w)) ≡ Some done = subst (λ (z : ℕ). find book k z ≡ Some done) number found in
    or_right (is_write (find_begun started k (suc (count k w)))) (has_fork (find book k (suc (count k w))) (k ∷ w))
    (ap (λ (z : Option Done). has_fork z (k ∷ w)) here ∙ (bytes_eq-Decides done.fork (k ∷ w)).1 fork)

forked : (book : List Done) (k t : ℕ) (w : List ℕ) (found : Option Done) → find book k t ≡ found → has_fork found w ≡ true
    → Completed book k t (λ done. done.fork ≡ w)
forked book k t w None is h = absurd (true≢false (sym h))
forked book k t w (Some done) is h = record { done = done; found = is; fits_it = (bytes_eq-Decides done.fork w).0 h }

-- a read that stays completed, and its fork is the front
pub kept-read : (started : List Begun) (book : List Done) (k t : ℕ) (w : List ℕ) (begun : Begun) → t ≡ suc (count k w)
    → is_kept started book (k ∷ w) ≡ true → find_begun started k t ≡ Some begun → begun.kind ≡ Read
    → Completed book k t (λ done. done.fork ≡ k ∷ w)
kept-read started book k t w begun number kept found reads =
    let here : find_begun started k (suc (count k w)) ≡ Some begun =
    subst (λ (z : ℕ). find_begun started k z ≡ Some begun) number found in
    elim (or_cases (is_write (find_begun started k (suc (count k w)))) (has_fork (find book k (suc (count k w))) (k ∷ w)) kept) [
      | inl writes ↦ absurd (true≢false (sym writes ∙ ap is_write here ∙ ap is_writing reads))
      | inr fork ↦
          subst (λ (z : ℕ). Completed book k z (λ done. done.fork ≡ k ∷ w)) (sym number)
          (forked book k (suc (count k w)) (k ∷ w) (find book k (suc (count k w))) refl fork)
    ]

kind-write : (kind : Kind) → is_writing kind ≡ true → kind ≡ Write
kind-write Write h = refl
kind-write Read h = absurd (true≢false (sym h))

written : (started : List Begun) (k t : ℕ) (found : Option Begun) → find_begun started k t ≡ found → is_write found ≡ true
    → Began started k t (λ begun. begun.kind ≡ Write)
written started k t None is h = absurd (true≢false (sym h))
written started k t (Some begun) is h = record { begun = begun; found = is; fits_it = kind-write begun.kind h }

-- what stays is a write, or completed with the front as its fork
pub kept-cases : (started : List Begun) (book : List Done) (k t : ℕ) (w : List ℕ) → t ≡ suc (count k w)
    → is_kept started book (k ∷ w) ≡ true
    → Began started k t (λ begun. begun.kind ≡ Write) ⊎ Completed book k t (λ done. done.fork ≡ k ∷ w)
kept-cases started book k t w number kept =
    let s : ℕ = suc (count k w) in
    elim (or_cases (is_write (find_begun started k s)) (has_fork (find book k s) (k ∷ w)) kept) [
      | inl writes ↦
          inl (subst (λ (z : ℕ). Began started k z (λ begun. begun.kind ≡ Write)) (sym number)
          (written started k s (find_begun started k s) refl writes))
      | inr fork ↦
          inr (subst (λ (z : ℕ). Completed book k z (λ done. done.fork ≡ k ∷ w)) (sym number)
          (forked book k s (k ∷ w) (find book k s) refl fork))
    ]

kind-read : (kind : Kind) → is_writing kind ≡ false → kind ≡ Read
kind-read Write h = absurd (true≢false h)
kind-read Read h = refl

-- what is dropped is a read
pub dropped-read : (started : List Begun) (book : List Done) (k : ℕ) (w : List ℕ) (begun : Begun)
    → is_kept started book (k ∷ w) ≡ false → find_begun started k (suc (count k w)) ≡ Some begun → begun.kind ≡ Read
dropped-read started book k w begun dropped found =
    let parts = or_parts (is_write (find_begun started k (suc (count k w)))) (has_fork (find book k (suc (count k w))) (k ∷ w)) dropped in
    kind-read begun.kind (sym (ap is_write found) ∙ parts.0)
