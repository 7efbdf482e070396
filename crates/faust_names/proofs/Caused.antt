-- What stays of a fork is causal.
use Rattle.std.proofs.Common.{◌≡◌, ℕ, ◌<◌, ◌≤◌, suc, List, [], ◌∷◌, Some, refl, sym, ap, ◌∙◌, subst, inl, inr, arith}
use Rattle.std.proofs.lemmas.Bool.{cases_eq, cases_lt}
use Rattle.faust_types.specs.declared.operation.Kind.{Kind}
use Rattle.faust_types.specs.declared.operation.Kind.TheVariants.{Write, Read}
use Rattle.faust_types.specs.declared.operation.OpName.{OpName}
use Rattle.faust_lists.specs.Lists.{count, upto, EndsWith, IsTail}
use Rattle.faust_lists.specs.Names.{Has}
use Rattle.faust_lists.proofs.Counts.{count-other, count-own}
use Rattle.faust_lists.proofs.Tails.{tail-cons}
use Rattle.faust_lists.proofs.Fronts.{count-upto, upto-ends, upto-reached, upto-tail}
use Rattle.faust_lists.proofs.Orders.{before-has, before-trans}
use Rattle.faust_forks.specs.Books.{Begun, Done, Completed, find, find_begun}
use Rattle.faust_forks.specs.Answers.{IsAnswered}
use Rattle.faust_forks.proofs.Found.{found-once}
use Rattle.faust_forks.proofs.Answering.{counted-client}
use Rattle.faust_names.specs.Views.{Causes, IsBefore, IsCausal, IsDirectCause, IsReadFrom}
use Rattle.faust_names.specs.ForkViews.{history_of, is_kept, listed}
use Rattle.faust_names.specs.Chronicles.{IsChronicle, IsKnown}
use Rattle.faust_names.proofs.Listed.{IsPlaced, older-before, placed, placed-has}
use Rattle.faust_names.proofs.Kept.{kept-read, kept-write}
use Rattle.faust_names.proofs.Known.{own_fork, own_fork-placed, placed-counted, shown}
use Rattle.faust_names.proofs.Viewed.{listed-distinct}

-- what comes before in program order
program-before : (n : ℕ) (started : List Begun) (book : List Done) (entry : ℕ) (w : List ℕ) (a b : OpName) → IsChronicle n started book
    → IsKnown n started book entry w → Has (listed (is_kept started book) w) b → 1 ≤ a.t → a.client ≡ b.client → a.t < b.t
    → IsBefore (listed (is_kept started book) w) a b
program-before n started book entry w a b chronicle known has one same greater =
    let keep = is_kept started book in
    let place = placed keep w b has in
    let older : IsTail place.older w = tail-cons b.client place.older w place.front in
    let in_older : a.t ≤ count a.client place.older =
    subst (λ (z : ℕ). a.t ≤ count z place.older) (sym same) (omega (arith, greater, place.number)) in
    let later : a.t < count a.client w = subst (λ (z : ℕ). a.t < count z w) (sym same)
    (omega (arith, greater, placed-counted keep w b place)) in
    let there : Completed book a.client a.t (λ done. done.fork ≡ upto a.client a.t w) =
    known.settled a.client a.t (counted-client n a.client w known.clients (omega (arith, one, later))) one later in
    let front : IsTail there.done.fork place.older = subst (λ (z : List ℕ). IsTail z place.older) (sym there.fits_it)
    (upto-reached a.client a.t place.older w older in_older) in
    older-before keep w a b place (placed-has keep place.older a
    (own_fork-placed started book a there.done.fork place.older
    (own_fork n started book a.client a.t there.done chronicle there.found) front))

-- A list that ends with client k, as that and what stands before.
record IsEnded (k : ℕ) (w : List ℕ) : Type 0 where
  older : List ℕ
  is : w ≡ k ∷ older

ended : (k : ℕ) (w : List ℕ) → EndsWith k w → IsEnded k w
ended k [] ends = absurd ends
ended k (x ∷ w) ends = record { older = w; is = ap (λ (z : ℕ). z ∷ w) ends }

-- a write among the operations of a fork stays
pub write-placed : (started : List Begun) (book : List Done) (w : List ℕ) (a : OpName) (begun : Begun) → 1 ≤ a.t → a.t ≤ count a.client w
    → find_begun started a.client a.t ≡ Some begun → begun.kind ≡ Write → IsPlaced (is_kept started book) w a
write-placed started book w a begun one within found writes =
    let split = ended a.client (upto a.client a.t w) (upto-ends a.client a.t w one within) in
    let number : a.t ≡ suc (count a.client split.older) =
    sym (count-upto a.client a.t w within) ∙ ap (λ (z : List ℕ). count a.client z) split.is
    ∙ count-own a.client a.client split.older refl in
    record {
      older = split.older;
      front = subst (λ (z : List ℕ). IsTail z w) split.is (upto-tail a.client a.t w);
      number = number;
      kept = kept-write started book a.client a.t split.older begun number found writes;
    }

write-not-read : (kind : Kind) → kind ≡ Write → kind ≡ Read → ⊥
write-not-read kind h i = cc

-- a write isn't the last operation before a read of which it is said that it counts with it
write-older : (started : List Begun) (w : List ℕ) (a b : OpName) (write read : Begun) → find_begun started a.client a.t ≡ Some write
    → write.kind ≡ Write → find_begun started b.client b.t ≡ Some read → read.kind ≡ Read → b.t ≡ suc (count b.client w)
    → a.t ≤ count a.client (b.client ∷ w) → a.t ≤ count a.client w
write-older started w a b write read in_a writes in_b reads number within = elim (cases_eq b.client a.client) [
  | inl e ↦ elim (cases_lt (count a.client w) a.t) [
    | inl lt ↦
        let next : b.t ≡ suc (count a.client w) = subst (λ (z : ℕ). b.t ≡ suc (count z w)) e number in
        let same : b.t ≡ a.t = omega (arith, next, lt, within, count-own a.client b.client w e) in
        let first : find_begun started a.client b.t ≡ Some read = subst (λ (z : ℕ). find_begun started z b.t ≡ Some read) e in_b in
        let here : find_begun started a.client a.t ≡ Some read = subst (λ (z : ℕ). find_begun started a.client z ≡ Some read) same first in
        let one : write ≡ read = found-once (find_begun started a.client a.t) write read in_a here in
        absurd (write-not-read write.kind writes (ap (λ (z : Begun). z.kind) one ∙ reads))
    | inr le ↦ le
  ]
  | inr ne ↦ omega (arith, within, count-other a.client b.client w ne)
]

read-before : (n : ℕ) (started : List Begun) (book : List Done) (w : List ℕ) (a b : OpName) → IsChronicle n started book
    → Has (listed (is_kept started book) w) b → IsReadFrom (history_of started book) a b
    → IsBefore (listed (is_kept started book) w) a b
read-before n started book w a b chronicle has from =
    let keep = is_kept started book in
    let place = placed keep w b has in
    let r : ℕ = from.begun.register in
    let own : Completed book b.client b.t (λ done. done.fork ≡ b.client ∷ place.older) =
    kept-read started book b.client b.t place.older from.begun place.number place.kept from.began from.reads in
    let answered : IsAnswered started r own.done =
    chronicle.answered b.client b.t own.done from.begun own.found from.began from.reads in
    let is = shown started book b from.finished from.completed in
    let same : is.done ≡ own.done = found-once (find book b.client b.t) is.done own.done is.found own.found in
    let asof : from.finished.asof ≡ count r (b.client ∷ place.older) =
    is.asof ∙ ap (λ (z : Done). z.asof) same ∙ answered.asof ∙ ap (λ (z : List ℕ). count r z) own.fits_it in
    let within : a.t ≤ count a.client (b.client ∷ place.older) =
    subst (λ (z : ℕ). a.t ≤ count z (b.client ∷ place.older)) (sym from.of_register) (omega (arith, from.within, asof)) in
    let older : a.t ≤ count a.client place.older = write-older started place.older a b from.write.begun from.begun from.write.began
    from.write.writes from.began from.reads place.number within in
    let one : 1 ≤ a.t = chronicle.numbered a.client a.t from.write.begun from.write.began in
    older-before keep w a b place (placed-has keep place.older a
    (write-placed started book place.older a from.write.begun one older from.write.began from.write.writes))

pub cause-before : (n : ℕ) (started : List Begun) (book : List Done) (entry : ℕ) (w : List ℕ) (a b : OpName) → IsChronicle n started book
    → IsKnown n started book entry w → Has (listed (is_kept started book) w) b → IsDirectCause (history_of started book) a b
    → IsBefore (listed (is_kept started book) w) a b
cause-before n started book entry w a b chronicle known has (inl program) =
    let one : 1 ≤ a.t = chronicle.numbered a.client a.t program.operation.begun program.operation.began in
    program-before n started book entry w a b chronicle known has one program.same_client program.greater
cause-before n started book entry w a b chronicle known has (inr from) = read-before n started book w a b chronicle has from

-- each operation that causally precedes one of the list stands before it
pub causes-before : (n : ℕ) (started : List Begun) (book : List Done) (entry : ℕ) (w : List ℕ) (a : OpName) (between : List OpName)
    (b : OpName) → IsChronicle n started book → IsKnown n started book entry w → Has (listed (is_kept started book) w) b
    → Causes (history_of started book) a between b → IsBefore (listed (is_kept started book) w) a b
causes-before n started book entry w a [] b chronicle known has h = cause-before n started book entry w a b chronicle known has h
causes-before n started book entry w a (x ∷ between) b chronicle known has h =
    let l = listed (is_kept started book) w in
    let later : IsBefore l x b = causes-before n started book entry w x between b chronicle known has h.1 in
    let first : IsBefore l a x = cause-before n started book entry w a x chronicle known (before-has l b x later).1 h.0 in
    before-trans l b x a (listed-distinct (is_kept started book) w) later first

pub listed-causal : (n : ℕ) (started : List Begun) (book : List Done) (entry : ℕ) (w : List ℕ) → IsChronicle n started book
    → IsKnown n started book entry w → IsCausal (history_of started book) (listed (is_kept started book) w)
listed-causal n started book entry w chronicle known = λ a b between has write h.
    causes-before n started book entry w a between b chronicle known has h
