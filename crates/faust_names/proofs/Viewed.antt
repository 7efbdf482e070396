-- What stays of a fork is a view: operations whose numbers rise, all completed ones of its client, and legal.
use Rattle.std.proofs.Common.{◌≡◌, ◌↔◌, ℕ, ◌<◌, ◌≤◌, suc, Bool, List, [], ◌∷◌, Option}
use Rattle.std.proofs.Common.{None, Some, refl, sym, ap, ◌∙◌, subst, inl, inr, arith}
use Rattle.std.proofs.lemmas.Bool.{cases_eq, cases_lt}
use Rattle.faust_types.specs.declared.operation.Kind.TheVariants.{Read}
use Rattle.faust_types.specs.declared.operation.OpName.{OpName}
use Rattle.faust_lists.specs.Lists.{count, IsTail}
use Rattle.faust_lists.specs.Names.{AreDistinct, Has, IsKept}
use Rattle.faust_lists.proofs.Tails.{AreClients-tail, tail-cons}
use Rattle.faust_lists.proofs.Orders.{before-has}
use Rattle.faust_forks.specs.Books.{Begun, Done, Completed, find, find_begun}
use Rattle.faust_forks.specs.Answers.{IsAnswered, written}
use Rattle.faust_forks.specs.Pasts.{fork_of}
use Rattle.faust_forks.proofs.Settled.{begun-tail}
use Rattle.faust_names.specs.Histories.{IsCompleted, IsOperation}
use Rattle.faust_names.specs.Views.{last_written, IsBefore, IsLegal}
use Rattle.faust_names.specs.ForkViews.{history_of, is_kept, last_fork, last_number, listed, seen, view_of}
use Rattle.faust_names.specs.Chronicles.{IsChronicle, IsKnown}
use Rattle.faust_names.proofs.Listed.{before-older, listed-has, listed_at, placed, placed-has}
use Rattle.faust_names.proofs.Kept.{kept-read}
use Rattle.faust_names.proofs.Known.{done-shown, own_fork, own_fork-placed, placed-began, placed-counted, settled-placed, shown}
use Rattle.faust_names.proofs.Last.{last-front}
use Rattle.faust_names.proofs.Held.{held-listed, written-other, written-own, written-read}

-- a view: operations
pub listed-operations : (n : ℕ) (started : List Begun) (book : List Done) (entry : ℕ) (keep : List ℕ → Bool) (w : List ℕ)
    → IsKnown n started book entry w → (a : OpName) → Has (listed keep w) a → IsOperation (history_of started book) a
listed-operations n started book entry keep w known a has =
    let began = placed-began n started book entry keep w a known (placed keep w a has) in
    record { begun = began.begun; began = began.found }

-- numbers rise, so none stands twice
pub listed-rising : (keep : List ℕ → Bool) (w : List ℕ) (a b : OpName) → IsBefore (listed keep w) a b → a.client ≡ b.client → a.t < b.t
listed-rising keep w a b h same =
    let both = before-has (listed keep w) b a h in
    let place = placed keep w b both.0 in
    let old : IsKept keep place.older a = listed-has keep place.older a (before-older keep w a b place h) in
    let within : a.t ≤ count b.client place.older = subst (λ (z : ℕ). a.t ≤ count z place.older) same old.within in
    omega (arith, within, place.number)

rising-distinct : (l : List OpName) → ((a b : OpName) → IsBefore l a b → a.client ≡ b.client → a.t < b.t) → AreDistinct l
rising-distinct [] rising = tt
rising-distinct (x ∷ l) rising = (
  λ has. absurd (omega (arith, rising x x (inl (refl, has)) refl)),
  rising-distinct l (λ a b before same. rising a b (inr before) same),
)

pub listed-distinct : (keep : List ℕ → Bool) (w : List ℕ) → AreDistinct (listed keep w)
listed-distinct keep w = rising-distinct (listed keep w) (listed-rising keep w)

-- the names of the client are all its completed operations
own-completed : (n : ℕ) (started : List Begun) (book : List Done) (keep : List ℕ → Bool) (i t : ℕ) (found : Option Done) (a : OpName)
    → IsChronicle n started book → find book i t ≡ found → a.client ≡ i → Has (listed keep (fork_of found)) a
    → Completed book a.client a.t (λ done. Unit {0})
own-completed n started book keep i t None a chronicle is client has = absurd has
own-completed n started book keep i t (Some done) a chronicle is client has =
    let of_i = chronicle.forks i t done is in
    let place = placed keep done.fork a has in
    let counted : count a.client done.fork ≡ t = subst (λ (z : ℕ). count z done.fork ≡ t) (sym client) of_i.counted in
    let within : a.t ≤ count a.client done.fork = placed-counted keep done.fork a place in
    elim (cases_lt a.t t) [
      | inl lt ↦
          let there = settled-placed n started book done.entry keep done.fork a of_i.known place (omega (arith, lt, counted)) in
          record { done = there.done; found = there.found; fits_it = tt }
      | inr ge ↦
          let last : t ≡ a.t = omega (arith, ge, within, counted) in
          let here : find book i a.t ≡ Some done = subst (λ (z : ℕ). find book i z ≡ Some done) last is in
          record { done = done; found = subst (λ (z : ℕ). find book z a.t ≡ Some done) (sym client) here; fits_it = tt }
    ]

completed-own : (n : ℕ) (started : List Begun) (book : List Done) (i : ℕ) (a : OpName) (done : Done) → IsChronicle n started book
    → a.client ≡ i → find book a.client a.t ≡ Some done → Has (view_of started book i) a
completed-own n started book i a done chronicle client found =
    let here : find book i a.t ≡ Some done = subst (λ (z : ℕ). find book z a.t ≡ Some done) client found in
    placed-has (is_kept started book) (last_fork book i) a
    (own_fork-placed started book a done.fork (last_fork book i) (own_fork n started book a.client a.t done chronicle found)
    (last-front n started book i a.t done chronicle here))

pub view-own : (n : ℕ) (started : List Begun) (book : List Done) (i : ℕ) → IsChronicle n started book → (a : OpName) → a.client ≡ i
    → Has (view_of started book i) a ↔ IsCompleted (history_of started book) a
view-own n started book i chronicle a client = (
  λ has.
      let there = own-completed n started book (is_kept started book) i (last_number book i) (find book i (last_number book i)) a
      chronicle refl client has in
      done-shown started book a there.done there.found,
  λ h.
      let is = shown started book a h.finished h.completed in
      completed-own n started book i a is.done chronicle client is.found,
)

-- each read answered the value of the last write before it
read-written : (started : List Begun) (k r t : ℕ) (w : List ℕ) (begun : Begun) → t ≡ suc (count k w)
    → find_begun started k t ≡ Some begun → begun.kind ≡ Read
    → written started r (count r (k ∷ w)) ≡ written started r (count r w)
read-written started k r t w begun number found reads = elim (cases_eq k r) [
  | inl e ↦
      let here : find_begun started k (suc (count k w)) ≡ Some begun =
      subst (λ (z : ℕ). find_begun started k z ≡ Some begun) number found in
      written-own started r k w begun e here ∙ written-read begun.kind begun.value (written started r (count r w)) reads
  | inr ne ↦ written-other started r k w ne
]

pub listed-legal : (n : ℕ) (started : List Begun) (book : List Done) (entry : ℕ) (w : List ℕ) → IsChronicle n started book
    → IsKnown n started book entry w → IsLegal (history_of started book) (listed (is_kept started book) w)
listed-legal n started book entry w chronicle known = λ before a begun front found reads.
    let h = history_of started book in
    let keep = is_kept started book in
    let at = listed_at keep w before a front in
    let r : ℕ = begun.register in
    let own : Completed book a.client a.t (λ done. done.fork ≡ a.client ∷ at.older) =
    kept-read started book a.client a.t at.older begun at.number at.kept found reads in
    let answered : IsAnswered started r own.done = chronicle.answered a.client a.t own.done begun own.found found reads in
    let older : IsTail at.older w = tail-cons a.client at.older w at.front in
    let held : last_written h r (listed keep at.older) ≡ written started r (count r at.older) =
    held-listed n started book entry r at.older (AreClients-tail n at.older w known.clients older)
    (begun-tail n started entry at.older w known.begun_before older) chronicle.own_register in
    record {
      finished = record { entry = own.done.entry; value = own.done.value; asof = own.done.asof };
      completed = ap seen own.found;
      value = answered.value ∙ ap (λ (z : List ℕ). written started r (count r z)) own.fits_it
          ∙ read-written started a.client r a.t at.older begun at.number found reads ∙ sym held
          ∙ ap (λ (z : List OpName). last_written h r z) (sym at.before_is);
    }
