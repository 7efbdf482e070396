-- Forks of a chronicle: where their operations stand, which of them completed, and what real time says of them.
use Rattle.std.proofs.Common.{◌≡◌, ℕ, ◌<◌, ◌≤◌, suc, Bool, true, List, [], ◌∷◌, Option}
use Rattle.std.proofs.Common.{None, Some, refl, sym, ap, ◌∙◌, subst, inl, inr, arith}
use Rattle.std.proofs.lemmas.Bool.{cases_lt}
use Rattle.faust_types.specs.declared.operation.OpName.{OpName}
use Rattle.faust_lists.specs.Lists.{count, upto, EndsWith, IsTail}
use Rattle.faust_lists.specs.Names.{IsKept}
use Rattle.faust_lists.proofs.Counts.{count-own}
use Rattle.faust_lists.proofs.Tails.{count-tail, tail-linear, tail-refl}
use Rattle.faust_lists.proofs.Fronts.{upto-ended, upto-own}
use Rattle.faust_forks.specs.Books.{Begun, Done, Began, Completed, find, find_begun}
use Rattle.faust_forks.proofs.Found.{found-once, some-same}
use Rattle.faust_forks.proofs.Settled.{ends-counted}
use Rattle.faust_forks.proofs.Answering.{counted-client}
use Rattle.faust_names.specs.Histories.{Finished, IsCompleted, Precedes}
use Rattle.faust_names.specs.Views.{HasLater, IsBefore}
use Rattle.faust_names.specs.ForkViews.{history_of, is_kept, listed, seen}
use Rattle.faust_names.specs.Chronicles.{IsChronicle, IsKnown}
use Rattle.faust_names.proofs.Listed.{IsPlaced, listed-has, older-before, placed-has}
use Rattle.faust_names.proofs.Kept.{kept-fork}

-- what the history shows of a completion
pub seen-done : (found : Option Done) (done : Done) (finished : Finished) → found ≡ Some done → seen found ≡ Some finished
    → finished ≡ record { entry = done.entry; value = done.value; asof = done.asof }
seen-done found done finished is shown = some-same _ _ (sym shown ∙ ap seen is)

-- A completion that the history shows.
pub record IsShown (book : List Done) (a : OpName) (finished : Finished) : Type 0 where
  pub done : Done
  pub found : find book a.client a.t ≡ Some done
  pub entry : finished.entry ≡ done.entry
  pub value : finished.value ≡ done.value
  pub asof : finished.asof ≡ done.asof

shown-of : (book : List Done) (a : OpName) (finished : Finished) (found : Option Done) → find book a.client a.t ≡ found
    → seen found ≡ Some finished → IsShown book a finished
shown-of book a finished None is shown = absurd cc
shown-of book a finished (Some done) is shown =
    let same : finished ≡ record { entry = done.entry; value = done.value; asof = done.asof } =
    seen-done (Some done) done finished refl shown in
    record {
      done = done;
      found = is;
      entry = ap (λ (z : Finished). z.entry) same;
      value = ap (λ (z : Finished). z.value) same;
      asof = ap (λ (z : Finished). z.asof) same;
    }

pub shown : (started : List Begun) (book : List Done) (a : OpName) (finished : Finished)
    → (history_of started book).completed a ≡ Some finished → IsShown book a finished
shown started book a finished h = shown-of book a finished (find book a.client a.t) refl h

pub done-shown : (started : List Begun) (book : List Done) (a : OpName) (done : Done) → find book a.client a.t ≡ Some done
    → IsCompleted (history_of started book) a
done-shown started book a done found =
    record { finished = record { entry = done.entry; value = done.value; asof = done.asof }; completed = ap seen found }

-- nothing is asked of the empty list
pub known-nil : (n : ℕ) (started : List Begun) (book : List Done) → IsKnown n started book 0 []
known-nil n started book = record {
  clients = tt;
  settled = λ k t c one lt. absurd (omega (arith, lt));
  begun_before = λ k t c one le. absurd (omega (arith, one, le));
}

-- where a name stands, its operation counts
pub placed-counted : (keep : List ℕ → Bool) (w : List ℕ) (a : OpName) → IsPlaced keep w a → a.t ≤ count a.client w
placed-counted keep w a place =
    omega (arith, place.number, count-tail a.client (a.client ∷ place.older) w place.front, count-own a.client a.client place.older refl)

pub placed-upto : (keep : List ℕ → Bool) (w : List ℕ) (a : OpName) → (place : IsPlaced keep w a)
    → upto a.client a.t w ≡ a.client ∷ place.older
placed-upto keep w a place =
    ap (λ (t : ℕ). upto a.client t w) place.number ∙ upto-own a.client place.older w place.front

pub placed-began : (n : ℕ) (started : List Begun) (book : List Done) (entry : ℕ) (keep : List ℕ → Bool) (w : List ℕ) (a : OpName)
    → IsKnown n started book entry w → IsPlaced keep w a → Began started a.client a.t (λ begun. begun.entry < entry)
placed-began n started book entry keep w a known place =
    let within = placed-counted keep w a place in
    let one : 1 ≤ a.t = omega (arith, place.number) in
    known.begun_before a.client a.t (counted-client n a.client w known.clients (omega (arith, one, within))) one within

-- an operation that has a later one of its client completed, and its fork is the front that ends with it
pub settled-placed : (n : ℕ) (started : List Begun) (book : List Done) (entry : ℕ) (keep : List ℕ → Bool) (w : List ℕ) (a : OpName)
    → IsKnown n started book entry w → (place : IsPlaced keep w a) → a.t < count a.client w
    → Completed book a.client a.t (λ done. done.fork ≡ a.client ∷ place.older)
settled-placed n started book entry keep w a known place later =
    let one : 1 ≤ a.t = omega (arith, place.number) in
    let there : Completed book a.client a.t (λ done. done.fork ≡ upto a.client a.t w) =
    known.settled a.client a.t (counted-client n a.client w known.clients (omega (arith, one, later))) one later in
    record { done = there.done; found = there.found; fits_it = there.fits_it ∙ placed-upto keep w a place }

pub later-counted : (keep : List ℕ → Bool) (w : List ℕ) (a : OpName) → HasLater (listed keep w) a → a.t < count a.client w
later-counted keep w a h =
    let kept : IsKept keep w h.later = listed-has keep w h.later h.in_list in
    subst (λ (z : ℕ). a.t < count z w) h.same_client (omega (arith, h.greater, kept.within))

-- The fork of a completion, as its last operation and what stands before it.
pub record IsOwnFork (started : List Begun) (book : List Done) (k t : ℕ) (w : List ℕ) : Type 0 where
  pub older : List ℕ
  pub fork : w ≡ k ∷ older
  pub number : t ≡ suc (count k older)
  pub kept : is_kept started book (k ∷ older) ≡ true

own_fork-of : (started : List Begun) (book : List Done) (k t : ℕ) (done : Done) (w : List ℕ) → find book k t ≡ Some done
    → done.fork ≡ w → EndsWith k w → count k w ≡ t → IsOwnFork started book k t w
own_fork-of started book k t done [] found fork ends counted = absurd ends
own_fork-of started book k t done (x ∷ w) found fork ends counted =
    let same : x ∷ w ≡ k ∷ w = ap (λ (z : ℕ). z ∷ w) ends in
    let number : t ≡ suc (count k w) = omega (arith, counted, count-own k x w ends) in
    record { older = w; fork = same; number = number; kept = kept-fork started book k t w done number found (fork ∙ same) }

pub own_fork : (n : ℕ) (started : List Begun) (book : List Done) (k t : ℕ) (done : Done) → IsChronicle n started book
    → find book k t ≡ Some done → IsOwnFork started book k t done.fork
own_fork n started book k t done chronicle found =
    let of_k = chronicle.forks k t done found in
    own_fork-of started book k t done done.fork found refl of_k.ends of_k.counted

-- a completion stands wherever its fork is a front
pub own_fork-placed : (started : List Begun) (book : List Done) (a : OpName) (u w : List ℕ) → IsOwnFork started book a.client a.t u
    → IsTail u w → IsPlaced (is_kept started book) w a
own_fork-placed started book a u w own front = record {
  older = own.older;
  front = subst (λ (z : List ℕ). IsTail z w) own.fork front;
  number = own.number;
  kept = own.kept;
}

-- the own forks of a client go up
pub own-front : (n : ℕ) (started : List Begun) (book : List Done) (k s t : ℕ) (x y : Done) → IsChronicle n started book
    → find book k s ≡ Some x → find book k t ≡ Some y → s ≤ t → x.fork ≡ upto k s y.fork
own-front n started book k s t x y chronicle in_x in_y le =
    let of_x = chronicle.forks k s x in_x in
    let of_y = chronicle.forks k t y in_y in
    let one : 1 ≤ s = omega (arith, of_x.counted, ends-counted k x.fork of_x.ends) in
    elim (cases_lt s t) [
      | inl lt ↦
          let client = counted-client n k y.fork of_y.known.clients (omega (arith, one, lt, of_y.counted)) in
          let there : Completed book k s (λ done. done.fork ≡ upto k s y.fork) =
          of_y.known.settled k s client one (omega (arith, lt, of_y.counted)) in
          ap (λ (z : Done). z.fork) (found-once (find book k s) x there.done in_x there.found) ∙ there.fits_it
      | inr ge ↦
          let last : s ≡ t = omega (arith, le, ge) in
          let here : find book k t ≡ Some x = subst (λ (z : ℕ). find book k z ≡ Some x) last in_x in
          let same : x.fork ≡ y.fork = ap (λ (z : Done). z.fork) (found-once (find book k t) x y here in_y) in
          let counted : count k y.fork ≡ s = of_y.counted ∙ sym last in
          same ∙ sym (upto-ended k y.fork y.fork of_y.ends (tail-refl y.fork)) ∙ ap (λ (z : ℕ). upto k z y.fork) counted
    ]

-- what stands in the fork of a completion began before that completed
pub began-within : (n : ℕ) (started : List Begun) (book : List Done) (keep : List ℕ → Bool) (k t : ℕ) (x : Done) (w : List ℕ)
    (b : OpName) → IsChronicle n started book → find book k t ≡ Some x → (place : IsPlaced keep w b)
    → IsTail (b.client ∷ place.older) x.fork → Began started b.client b.t (λ begun. begun.entry < x.entry)
began-within n started book keep k t x w b chronicle found place front =
    let known = (chronicle.forks k t x found).known in
    let here : IsPlaced keep x.fork b = record { older = place.older; front = front; number = place.number; kept = place.kept } in
    placed-began n started book x.entry keep x.fork b known here

pub precedes-not : (started : List Begun) (book : List Done) (a b : OpName) (x : Done) → Precedes (history_of started book) a b
    → find book a.client a.t ≡ Some x → Began started b.client b.t (λ begun. begun.entry < x.entry) → ⊥
precedes-not started book a b x precedes found began =
    let done = shown started book a precedes.finished precedes.completed in
    let one : done.done ≡ x = found-once (find book a.client a.t) done.done x done.found found in
    let ended : done.done.entry ≡ x.entry = ap (λ (z : Done). z.entry) one in
    let same : began.begun ≡ precedes.begun =
    found-once (find_begun started b.client b.t) began.begun precedes.begun began.found precedes.began in
    let start : began.begun.entry ≡ precedes.begun.entry = ap (λ (z : Begun). z.entry) same in
    omega (arith, done.entry, ended, start, began.fits_it, precedes.earlier)

-- a completion that precedes an operation, and whose fork is a front, has it before that operation
precedes-older : (n : ℕ) (started : List Begun) (book : List Done) (keep : List ℕ → Bool) (w : List ℕ) (a b : OpName) (x : Done)
    → IsChronicle n started book → find book a.client a.t ≡ Some x → (place : IsPlaced keep w b)
    → Precedes (history_of started book) a b → IsTail x.fork (b.client ∷ place.older) → IsTail x.fork place.older
precedes-older n started book keep w a b x chronicle found place precedes (inl same) =
    let within : IsTail (b.client ∷ place.older) x.fork =
    subst (λ (z : List ℕ). IsTail z x.fork) same (tail-refl x.fork) in
    absurd (precedes-not started book a b x precedes found
    (began-within n started book keep a.client a.t x w b chronicle found place within))
precedes-older n started book keep w a b x chronicle found place precedes (inr front) = front

pub precedes-placed : (n : ℕ) (started : List Begun) (book : List Done) (keep : List ℕ → Bool) (w : List ℕ) (a b : OpName) (x : Done)
    → IsChronicle n started book → find book a.client a.t ≡ Some x → IsTail x.fork w → (place : IsPlaced keep w b)
    → Precedes (history_of started book) a b → IsTail x.fork place.older
precedes-placed n started book keep w a b x chronicle found front place precedes =
    elim (tail-linear x.fork (b.client ∷ place.older) w front place.front) [
      | inl within ↦ precedes-older n started book keep w a b x chronicle found place precedes within
      | inr around ↦
          absurd (precedes-not started book a b x precedes found
          (began-within n started book keep a.client a.t x w b chronicle found place around))
    ]

pub precedes-before : (n : ℕ) (started : List Begun) (book : List Done) (w : List ℕ) (a b : OpName) (x : Done)
    → IsChronicle n started book → find book a.client a.t ≡ Some x → IsTail x.fork w → IsPlaced (is_kept started book) w b
    → Precedes (history_of started book) a b → IsBefore (listed (is_kept started book) w) a b
precedes-before n started book w a b x chronicle found front place precedes =
    let older = precedes-placed n started book (is_kept started book) w a b x chronicle found front place precedes in
    let own = own_fork n started book a.client a.t x chronicle found in
    older-before (is_kept started book) w a b place
    (placed-has (is_kept started book) place.older a (own_fork-placed started book a x.fork place.older own older))
