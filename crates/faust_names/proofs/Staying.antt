-- A view is what stays of the fork view of its client's last completed operation.
use Rattle.std.proofs.Common.{◌↔◌, ◌⊎◌, ℕ, Bool, true, List, refl, sym, subst, inl, inr}
use Rattle.faust_types.specs.declared.operation.OpName.{OpName}
use Rattle.faust_lists.specs.Lists.{IsTail}
use Rattle.faust_lists.specs.Names.{Has, IsKept}
use Rattle.faust_lists.proofs.Orders.{before-has}
use Rattle.faust_forks.specs.Books.{Begun, Done}
use Rattle.faust_names.specs.Histories.{named, IsCompleted, IsWrite}
use Rattle.faust_names.specs.Views.{IsBefore, IsPrefix}
use Rattle.faust_names.specs.ForkViews.{fork_view, history_of, is_kept, last_fork, last_number, listed, view_of}
use Rattle.faust_names.specs.Chronicles.{IsChronicle}
use Rattle.faust_names.proofs.Listed.{IsPlaced, before-older, listed-has, older-before, placed, placed-has, prefix-listed}
use Rattle.faust_names.proofs.Kept.{kept-cases}
use Rattle.faust_names.proofs.Known.{done-shown, own_fork, own_fork-placed, shown}
use Rattle.faust_names.proofs.Caused.{write-placed}
use Rattle.faust_names.proofs.ForkNames.{all-tail, fork_view-is}

-- what stands among kept names stands among all
abbrev place-all : (keep : List ℕ → Bool) (w : List ℕ) (a : OpName) → IsPlaced keep w a → IsPlaced (λ front. true) w a
place-all keep w a place = record { older = place.older; front = place.front; number = place.number; kept = refl }

why-stays : (started : List Begun) (book : List Done) (w : List ℕ) (a : OpName) → IsPlaced (is_kept started book) w a
    → IsWrite (history_of started book) a
    ⊎ (IsCompleted (history_of started book) a × IsPrefix (fork_view book a) (listed (λ front. true) w))
why-stays started book w a place = elim (kept-cases started book a.client a.t place.older place.number place.kept) [
  | inl write ↦ inl (record { begun = write.begun; began = write.found; writes = write.fits_it })
  | inr own ↦
      let front : IsTail own.done.fork w = subst (λ (z : List ℕ). IsTail z w) (sym own.fits_it) place.front in
      inr (
        done-shown started book a own.done own.found,
        subst (λ (z : List OpName). IsPrefix z (listed (λ front. true) w)) (sym (fork_view-is book a own.done own.found))
            (prefix-listed (λ front. true) own.done.fork w front),
      )
]

what-stays : (n : ℕ) (started : List Begun) (book : List Done) (w : List ℕ) (a : OpName) → IsChronicle n started book
    → Has (listed (λ front. true) w) a
    → IsWrite (history_of started book) a
    ⊎ (IsCompleted (history_of started book) a × IsPrefix (fork_view book a) (listed (λ front. true) w))
    → Has (listed (is_kept started book) w) a
what-stays n started book w a chronicle has (inl write) =
    let kept : IsKept (λ front. true) w a = listed-has (λ front. true) w a has in
    placed-has (is_kept started book) w a (write-placed started book w a write.begun kept.from_one kept.within write.began write.writes)
what-stays n started book w a chronicle has (inr own) =
    let is = shown started book a own.0.finished own.0.completed in
    let front : IsTail is.done.fork w = all-tail is.done.fork w
    (subst (λ (z : List OpName). IsPrefix z (listed (λ front. true) w)) (fork_view-is book a is.done is.found) own.1) in
    placed-has (is_kept started book) w a
    (own_fork-placed started book a is.done.fork w (own_fork n started book a.client a.t is.done chronicle is.found) front)

pub view-members : (n : ℕ) (started : List Begun) (book : List Done) (i : ℕ) (a : OpName) → IsChronicle n started book
    → Has (view_of started book i) a ↔ (Has (fork_view book (named i (last_number book i))) a
    × (IsWrite (history_of started book) a
    ⊎ (IsCompleted (history_of started book) a × IsPrefix (fork_view book a) (fork_view book (named i (last_number book i))))))
view-members n started book i a chronicle =
    let keep = is_kept started book in
    let w = last_fork book i in (
      λ has.
          let place = placed keep w a has in
          (placed-has (λ front. true) w a (place-all keep w a place), why-stays started book w a place),
      λ h. what-stays n started book w a chronicle h.0 h.1,
    )

pub view-order : (started : List Begun) (book : List Done) (i : ℕ) (a b : OpName) → IsBefore (view_of started book i) a b
    → IsBefore (fork_view book (named i (last_number book i))) a b
view-order started book i a b h =
    let keep = is_kept started book in
    let w = last_fork book i in
    let place = placed keep w b (before-has (listed keep w) b a h).0 in
    let first = placed keep place.older a (before-older keep w a b place h) in
    older-before (λ front. true) w a b (place-all keep w b place)
    (placed-has (λ front. true) place.older a (place-all keep place.older a first))
