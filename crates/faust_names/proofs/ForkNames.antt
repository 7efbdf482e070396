-- Fork views: their names, and their fronts.
use Rattle.std.proofs.Common.{reverse, ◌≡◌, ◌↔◌, ◌⊎◌, ℕ, true, List, [], ◌∷◌, ◌++◌, Some, refl, sym, ap, ◌∙◌, subst, inl, inr}
use Rattle.std.proofs.lemmas.List.{reverse-append}
use Rattle.faust_types.specs.declared.operation.OpName.{OpName}
use Rattle.faust_lists.specs.Lists.{IsTail}
use Rattle.faust_lists.specs.Names.{name_of, names, Has}
use Rattle.faust_forks.specs.Books.{Done, find}
use Rattle.faust_forks.specs.Pasts.{fork_of}
use Rattle.faust_names.specs.Views.{IsPrefix}
use Rattle.faust_names.specs.ForkViews.{fork_view, listed}
use Rattle.faust_names.proofs.Snocs.{nil-snoc, prefix-nil, prefix-snoc, snoc-same}
use Rattle.faust_names.proofs.Listed.{listed-sift, prefix-listed, sift-listed}

pub fork_view-is : (book : List Done) (a : OpName) (done : Done) → find book a.client a.t ≡ Some done
    → fork_view book a ≡ listed (λ front. true) done.fork
fork_view-is book a done found = ap (λ (z : List ℕ). listed (λ front. true) z) (ap fork_of found)

-- it is the names of the fork, turned round
all-reversed : (w : List ℕ) → listed (λ front. true) w ≡ reverse (names w)
all-reversed [] = refl
all-reversed (k ∷ w) =
    ap (λ (z : List OpName). z ++ name_of k w ∷ []) (all-reversed w) ∙ sym (reverse-append (name_of k w ∷ []) (names w))

pub fork_view-reversed : (book : List Done) (a : OpName) (done : Done) → find book a.client a.t ≡ Some done
    → fork_view book a ≡ reverse (names done.fork)
fork_view-reversed book a done found = fork_view-is book a done found ∙ all-reversed done.fork

pub fork_view-names : (book : List Done) (a b : OpName) (done : Done) → find book a.client a.t ≡ Some done
    → Has (fork_view book a) b ↔ Has (names done.fork) b
fork_view-names book a b done found =
    let is = fork_view-is book a done found in (
      λ has. listed-sift (λ front. true) done.fork b (subst (λ (z : List OpName). Has z b) is has),
      λ has. subst (λ (z : List OpName). Has z b) (sym is) (sift-listed (λ front. true) done.fork b has),
    )

-- equal names are of one list of clients
all-same : (u w : List ℕ) → listed (λ front. true) u ≡ listed (λ front. true) w → u ≡ w
all-same [] [] h = refl
all-same [] (y ∷ w) h = absurd (nil-snoc (listed (λ front. true) w) (name_of y w) h)
all-same (x ∷ u) [] h = absurd (nil-snoc (listed (λ front. true) u) (name_of x u) (sym h))
all-same (x ∷ u) (y ∷ w) h =
    let parts = snoc-same (listed (λ front. true) u) (listed (λ front. true) w) (name_of x u) (name_of y w) h in
    let heads : x ≡ y = ap (λ (a : OpName). a.client) parts.1 in
    let rest : u ≡ w = all-same u w parts.0 in
    ap (λ (z : ℕ). z ∷ u) heads ∙ ap (λ (z : List ℕ). y ∷ z) rest

-- a front of all names is of a front of the clients
tail-or : (u : List ℕ) (x : ℕ) (w : List ℕ) → (IsPrefix (listed (λ front. true) u) (listed (λ front. true) w) → IsTail u w)
    → IsPrefix (listed (λ front. true) u) (listed (λ front. true) w)
    ⊎ (listed (λ front. true) u ≡ listed (λ front. true) w ++ name_of x w ∷ []) → IsTail u (x ∷ w)
tail-or u x w old (inl front) = inr (old front)
tail-or u x w old (inr whole) = inl (all-same u (x ∷ w) whole)

pub all-tail : (u w : List ℕ) → IsPrefix (listed (λ front. true) u) (listed (λ front. true) w) → IsTail u w
all-tail u [] h = all-same u [] (prefix-nil (listed (λ front. true) u) h)
all-tail u (x ∷ w) h =
    tail-or u x w (all-tail u w) (prefix-snoc (listed (λ front. true) u) (listed (λ front. true) w) (name_of x w) h)

pub fork_view-front : (book : List Done) (a b : OpName) (x y : Done) → find book a.client a.t ≡ Some x
    → find book b.client b.t ≡ Some y → IsPrefix (fork_view book a) (fork_view book b) ↔ IsTail x.fork y.fork
fork_view-front book a b x y in_x in_y =
    let of_x = fork_view-is book a x in_x in
    let of_y = fork_view-is book b y in_y in (
      λ h. all-tail x.fork y.fork (subst (λ (z : List OpName). IsPrefix (listed (λ front. true) x.fork) z) of_y
          (subst (λ (z : List OpName). IsPrefix z (fork_view book b)) of_x h)),
      λ front. subst (λ (z : List OpName). IsPrefix z (fork_view book b)) (sym of_x)
          (subst (λ (z : List OpName). IsPrefix (listed (λ front. true) x.fork) z) (sym of_y)
          (prefix-listed (λ front. true) x.fork y.fork front)),
    )
