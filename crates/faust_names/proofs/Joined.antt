-- What stays of forks keeps weak real time, and each two join at most once.
use Rattle.std.proofs.Common.{◌≡◌, ℕ, Bool, List, ◌∷◌, sym, ap, ◌∙◌, subst}
use Rattle.faust_lists.specs.Lists.{IsTail}
use Rattle.faust_forks.specs.Books.{Begun, Done, Completed, find}
use Rattle.faust_forks.proofs.Found.{found-once}
use Rattle.faust_names.specs.Views.{JoinAtMostOnce, KeepsWeakRealTime}
use Rattle.faust_names.specs.ForkViews.{history_of, is_kept, listed}
use Rattle.faust_names.specs.Chronicles.{IsChronicle, IsKnown}
use Rattle.faust_names.proofs.Listed.{IsPlaced, listed_at, placed}
use Rattle.faust_names.proofs.Known.{later-counted, precedes-before, settled-placed}

-- a client's operation that isn't its last one stands where it completed
pub listed-real_time : (n : ℕ) (started : List Begun) (book : List Done) (entry : ℕ) (w : List ℕ) → IsChronicle n started book
    → IsKnown n started book entry w → KeepsWeakRealTime (history_of started book) (listed (is_kept started book) w)
listed-real_time n started book entry w chronicle known = λ a b has_a has_b precedes later.
    let keep = is_kept started book in
    let place = placed keep w a has_a in
    let own : Completed book a.client a.t (λ done. done.fork ≡ a.client ∷ place.older) =
    settled-placed n started book entry keep w a known place (later-counted keep w a later) in
    let front : IsTail own.done.fork w = subst (λ (z : List ℕ). IsTail z w) (sym own.fits_it) place.front in
    precedes-before n started book w a b own.done chronicle own.found front (placed keep w b has_b) precedes

-- the front that ends with such an operation is its own fork in each view
cons-rest : (k : ℕ) (u w : List ℕ) → k ∷ u ≡ k ∷ w → u ≡ w
cons-rest k u w h = cc

pub listed-join : (n : ℕ) (started : List Begun) (book : List Done) (entry other : ℕ) (keep : List ℕ → Bool) (w v : List ℕ)
    → IsKnown n started book entry w → IsKnown n started book other v → JoinAtMostOnce (listed keep w) (listed keep v)
listed-join n started book entry other keep w v known_w known_v = λ a before second front_w front_v later_w later_v.
    let at_w = listed_at keep w before a front_w in
    let at_v = listed_at keep v second a front_v in
    let place_w : IsPlaced keep w a = record { older = at_w.older; front = at_w.front; number = at_w.number; kept = at_w.kept } in
    let place_v : IsPlaced keep v a = record { older = at_v.older; front = at_v.front; number = at_v.number; kept = at_v.kept } in
    let own_w : Completed book a.client a.t (λ done. done.fork ≡ a.client ∷ at_w.older) =
    settled-placed n started book entry keep w a known_w place_w (later-counted keep w a later_w) in
    let own_v : Completed book a.client a.t (λ done. done.fork ≡ a.client ∷ at_v.older) =
    settled-placed n started book other keep v a known_v place_v (later-counted keep v a later_v) in
    let one : own_w.done ≡ own_v.done = found-once (find book a.client a.t) own_w.done own_v.done own_w.found own_v.found in
    let forks : a.client ∷ at_w.older ≡ a.client ∷ at_v.older = sym own_w.fits_it ∙ ap (λ (z : Done). z.fork) one ∙ own_v.fits_it in
    at_w.before_is ∙ ap (listed keep) (cons-rest a.client at_w.older at_v.older forks) ∙ sym at_v.before_is
