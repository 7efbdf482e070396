-- What fork views tell of a chronicle, and how they are ordered.
use Rattle.std.proofs.Common.{◌≡◌, ◌↔◌, ℕ, ◌<◌, ◌≤◌, true, List, ◌∷◌, Some, refl, sym, subst, arith}
use Rattle.faust_types.specs.Versions.{IsAtMost}
use Rattle.faust_types.specs.declared.operation.OpName.{OpName}
use Rattle.faust_lists.specs.Lists.{count, IsTail}
use Rattle.faust_lists.specs.Names.{Has, IsKept}
use Rattle.faust_lists.specs.Walks.{IsFree}
use Rattle.faust_forks.specs.Books.{Begun, Done, Completed, find}
use Rattle.faust_forks.specs.Forks.{IsBook}
use Rattle.faust_forks.specs.Pasts.{Past, fork_of}
use Rattle.faust_forks.proofs.Ordered.{below-exactly}
use Rattle.faust_names.specs.Histories.{named, IsCompleted, IsOperation}
use Rattle.faust_names.specs.Views.{IsPrefix}
use Rattle.faust_names.specs.ForkViews.{fork_view, history_of, listed}
use Rattle.faust_names.specs.Chronicles.{IsChronicle}
use Rattle.faust_names.proofs.Listed.{kept-listed, listed-has, placed, prefix-listed}
use Rattle.faust_names.proofs.Known.{done-shown, settled-placed}
use Rattle.faust_names.proofs.Last.{IsKnownByEnd, found-known}
use Rattle.faust_names.proofs.Viewed.{listed-operations}
use Rattle.faust_names.proofs.ForkNames.{fork_view-front, fork_view-is}

fork-known : (n : ℕ) (started : List Begun) (book : List Done) (a : OpName) → IsChronicle n started book
    → IsKnownByEnd n started book (fork_of (find book a.client a.t))
fork-known n started book a chronicle =
    found-known n started book a.client a.t (find book a.client a.t) (chronicle.forks a.client a.t)

pub fork_view-operations : (n : ℕ) (started : List Begun) (book : List Done) (a b : OpName) → IsChronicle n started book
    → Has (fork_view book a) b → IsOperation (history_of started book) b
fork_view-operations n started book a b chronicle has =
    let end = fork-known n started book a chronicle in
    listed-operations n started book end.entry (λ front. true) (fork_of (find book a.client a.t)) end.known b has

-- each client's numbers are there from 1 on
pub fork_view-gapless : (book : List Done) (a b : OpName) (s : ℕ) → Has (fork_view book a) b → 1 ≤ s → s ≤ b.t
    → Has (fork_view book a) (named b.client s)
fork_view-gapless book a b s has one le =
    let w = fork_of (find book a.client a.t) in
    let kept : IsKept (λ front. true) w b = listed-has (λ front. true) w b has in
    kept-listed (λ front. true) w (named b.client s)
    (record { from_one = one; within = omega (arith, le, kept.within); kept = refl })

-- an operation with a later one of its client completed, and its own fork view is a front
pub fork_view-completed : (n : ℕ) (started : List Begun) (book : List Done) (a b c : OpName) → IsChronicle n started book
    → Has (fork_view book a) b → Has (fork_view book a) c → b.client ≡ c.client → b.t < c.t
    → IsCompleted (history_of started book) b × IsPrefix (fork_view book b) (fork_view book a)
fork_view-completed n started book a b c chronicle in_b in_c same later =
    let end = fork-known n started book a chronicle in
    let w = fork_of (find book a.client a.t) in
    let second : IsKept (λ front. true) w c = listed-has (λ front. true) w c in_c in
    let within : b.t < count b.client w = subst (λ (z : ℕ). b.t < count z w) (sym same) (omega (arith, later, second.within)) in
    let place = placed (λ front. true) w b in_b in
    let own : Completed book b.client b.t (λ done. done.fork ≡ b.client ∷ place.older) =
    settled-placed n started book end.entry (λ front. true) w b end.known place within in
    let front : IsTail own.done.fork w = subst (λ (z : List ℕ). IsTail z w) (sym own.fits_it) place.front in (
      done-shown started book b own.done own.found,
      subst (λ (z : List OpName). IsPrefix z (listed (λ front. true) w)) (sym (fork_view-is book b own.done own.found))
          (prefix-listed (λ front. true) own.done.fork w front),
    )

-- versions are ordered as fork views are
pub fork_view-below : (n : ℕ) (past : Past) (a b : OpName) (x y : Done) → IsFree past.hashed → IsBook n past
    → find past.book a.client a.t ≡ Some x → find past.book b.client b.t ≡ Some y
    → IsAtMost x.version y.version ↔ IsPrefix (fork_view past.book a) (fork_view past.book b)
fork_view-below n past a b x y free sound in_x in_y =
    let forks = below-exactly n past a.client a.t b.client b.t x y free sound in_x in_y in
    let views = fork_view-front past.book a b x y in_x in_y in (
      λ below. views.1 (forks.0 below),
      λ front. forks.1 (views.0 front),
    )
