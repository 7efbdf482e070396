-- Entries in the order of their numbers: what is sifted out of them, and how they are numbered.
use Rattle.std.proofs.Common.{◌≡◌, ◌+◌, ◌<◌, ◌≤◌, ℕ, zero, suc, Bool, true, false, cond, List, [], ◌∷◌, ◌++◌, length, map, eqb, ltb, nat_le, refl, sym, ap, ◌∙◌, subst, inl, inr, arith}
use Rattle.std.proofs.lemmas.Bool.{cases_Bool, cases_eq, cases_lt, cond-false, cond-true, eq-eqb, le-ltb, leb-false, leb-true, le-leb, lt-leb, lt-ltb, ne_eqb}
use Rattle.faust_record.specs.Journals.{AreRising}
use Rattle.faust_record.specs.Merging.{HoldsEachBelow, by_number, inserted, numbers_of, once_below, times}
use Rattle.faust_record.specs.Runs.{AreNumbered}
use Rattle.faust_record.specs.declared.entry.Entry.{Entry}
use Rattle.faust_record.proofs.Own.{kept-append}

-- each number is at least q
abbrev pub AreFrom : ℕ → List Entry → Type 0
AreFrom q [] = Unit {0}
AreFrom q (x ∷ xs) = (q ≤ x.number) × AreFrom q xs

abbrev pub AreOrdered : List Entry → Type 0
AreOrdered [] = Unit {0}
AreOrdered (x ∷ xs) = AreFrom x.number xs × AreOrdered xs

pub from-less : (p q : ℕ) (xs : List Entry) → p ≤ q → AreFrom q xs → AreFrom p xs
from-less p q [] below above = tt
from-less p q (x ∷ xs) below above = (omega (arith, below, above.0), from-less p q xs below above.1)

-- inserting, by the test that it makes
pub inserted-first : (e x : Entry) (xs : List Entry) → e.number ≤ x.number → inserted e (x ∷ xs) ≡ e ∷ x ∷ xs
inserted-first e x xs below = cond-true (nat_le e.number x.number) (e ∷ x ∷ xs) (x ∷ inserted e xs) (le-leb e.number x.number below)

pub inserted-later : (e x : Entry) (xs : List Entry) → x.number < e.number → inserted e (x ∷ xs) ≡ x ∷ inserted e xs
inserted-later e x xs above = cond-false (nat_le e.number x.number) (e ∷ x ∷ xs) (x ∷ inserted e xs) (lt-leb e.number x.number above)

-- an entry in front of greater ones stays there
inserted-least : (e : Entry) (xs : List Entry) → AreFrom e.number xs → inserted e xs ≡ e ∷ xs
inserted-least e [] above = refl
inserted-least e (x ∷ xs) above = inserted-first e x xs above.0

from-inserted : (q : ℕ) (e : Entry) (xs : List Entry) → q ≤ e.number → AreFrom q xs → AreFrom q (inserted e xs)
from-inserted q e [] here above = (here, tt)
from-inserted q e (x ∷ xs) here above = elim (cases_lt x.number e.number) [
  | inl later ↦ subst (AreFrom q) (sym (inserted-later e x xs later)) (above.0, from-inserted q e xs here above.1)
  | inr first ↦ subst (AreFrom q) (sym (inserted-first e x xs first)) (here, above)
]

ordered-inserted : (e : Entry) (xs : List Entry) → AreOrdered xs → AreOrdered (inserted e xs)
ordered-inserted e [] ordered = (tt, tt)
ordered-inserted e (x ∷ xs) ordered = elim (cases_lt x.number e.number) [
  | inl later ↦
      let below : x.number ≤ e.number = omega (arith, later) in
      subst AreOrdered (sym (inserted-later e x xs later)) (from-inserted x.number e xs below ordered.0, ordered-inserted e xs ordered.1)
  | inr first ↦
      subst AreOrdered (sym (inserted-first e x xs first)) ((first, from-less e.number x.number xs first ordered.0), ordered)
]

pub ordered-by_number : (xs : List Entry) → AreOrdered (by_number xs)
ordered-by_number [] = tt
ordered-by_number (x ∷ xs) = ordered-inserted x (by_number xs) (ordered-by_number xs)

-- rising entries are in order
rising-from : (q : ℕ) (xs : List Entry) → AreRising q xs → AreFrom q xs
rising-from q [] rising = tt
rising-from q (x ∷ xs) rising =
    let below : q ≤ suc x.number = omega (arith, rising.0) in
    (rising.0, from-less q (suc x.number) xs below (rising-from (suc x.number) xs rising.1))

pub by_number-rising : (q : ℕ) (xs : List Entry) → AreRising q xs → by_number xs ≡ xs
by_number-rising q [] rising = refl
by_number-rising q (x ∷ xs) rising =
    let below : x.number ≤ suc x.number = omega arith in
    ap (inserted x) (by_number-rising (suc x.number) xs rising.1)
    ∙ inserted-least x xs (from-less x.number (suc x.number) xs below (rising-from (suc x.number) xs rising.1))

-- what a test keeps
abbrev pub sifted : (Entry → Bool) → List Entry → List Entry
sifted keep [] = []
sifted keep (x ∷ xs) = cond (keep x) (x ∷ sifted keep xs) (sifted keep xs)

from-choice : (b : Bool) (q : ℕ) (x : Entry) (xs : List Entry) → q ≤ x.number → AreFrom q xs → AreFrom q (cond b (x ∷ xs) xs)
from-choice true q x xs here above = (here, above)
from-choice false q x xs here above = above

from-sifted : (keep : Entry → Bool) (q : ℕ) (xs : List Entry) → AreFrom q xs → AreFrom q (sifted keep xs)
from-sifted keep q [] above = tt
from-sifted keep q (x ∷ xs) above =
    from-choice (keep x) q x (sifted keep xs) above.0 (from-sifted keep q xs above.1)

-- an entry in front of what is kept of greater ones
kept-first : (b : Bool) (e : Entry) (rest : List Entry) → AreFrom e.number rest → cond b (e ∷ rest) rest ≡ cond b (inserted e rest) rest
kept-first true e rest above = sym (inserted-least e rest above)
kept-first false e rest above = refl

-- an entry behind a smaller one, each of which is kept or not
kept-later : (b here : Bool) (e x : Entry) (rest all : List Entry) → x.number < e.number → all ≡ cond b (inserted e rest) rest
    → cond here (x ∷ all) all ≡ cond b (inserted e (cond here (x ∷ rest) rest)) (cond here (x ∷ rest) rest)
kept-later true true e x rest all above is = ap (λ (l : List Entry). x ∷ l) is ∙ sym (inserted-later e x rest above)
kept-later true false e x rest all above is = is
kept-later false true e x rest all above is = ap (λ (l : List Entry). x ∷ l) is
kept-later false false e x rest all above is = is

sifted-inserted : (keep : Entry → Bool) (e : Entry) (xs : List Entry) → AreOrdered xs
    → sifted keep (inserted e xs) ≡ cond (keep e) (inserted e (sifted keep xs)) (sifted keep xs)
sifted-inserted keep e [] ordered = refl
sifted-inserted keep e (x ∷ xs) ordered = elim (cases_lt x.number e.number) [
  | inl later ↦
      ap (sifted keep) (inserted-later e x xs later)
      ∙ kept-later (keep e) (keep x) e x (sifted keep xs) (sifted keep (inserted e xs)) later (sifted-inserted keep e xs ordered.1)
  | inr first ↦
      let above : AreFrom e.number (x ∷ xs) = (first, from-less e.number x.number xs first ordered.0) in
      ap (sifted keep) (inserted-first e x xs first)
      ∙ kept-first (keep e) e (sifted keep (x ∷ xs)) (from-sifted keep e.number (x ∷ xs) above)
]

by_number-choice : (b : Bool) (e : Entry) (xs : List Entry) → cond b (inserted e (by_number xs)) (by_number xs) ≡ by_number
    (cond b (e ∷ xs) xs)
by_number-choice true e xs = refl
by_number-choice false e xs = refl

pub sifted-by_number : (keep : Entry → Bool) (xs : List Entry) → sifted keep (by_number xs) ≡ by_number (sifted keep xs)
sifted-by_number keep [] = refl
sifted-by_number keep (x ∷ xs) =
    sifted-inserted keep x (by_number xs) (ordered-by_number xs)
    ∙ ap (λ (l : List Entry). cond (keep x) (inserted x l) l) (sifted-by_number keep xs)
    ∙ by_number-choice (keep x) x (sifted keep xs)

pub sifted-append : (keep : Entry → Bool) (xs ys : List Entry) → sifted keep (xs ++ ys) ≡ sifted keep xs ++ sifted keep ys
sifted-append keep [] ys = refl
sifted-append keep (x ∷ xs) ys =
    kept-append (keep x) x (sifted keep (xs ++ ys)) (sifted keep xs) (sifted keep ys) (sifted-append keep xs ys)

-- how often a number stands
pub times-head : (x : ℕ) (e : Entry) (xs : List Entry) → e.number ≡ x → times x (numbers_of (e ∷ xs)) ≡ 1 + times x (numbers_of xs)
times-head x e xs same = ap (λ (b : Bool). cond b 1 0 + times x (numbers_of xs)) (eq-eqb x e.number (sym same))

pub times-other : (x : ℕ) (e : Entry) (xs : List Entry) → (e.number ≡ x → ⊥) → times x (numbers_of (e ∷ xs)) ≡ times x (numbers_of xs)
times-other x e xs other =
    let same : 0 + times x (numbers_of xs) ≡ times x (numbers_of xs) = omega arith in
    ap (λ (b : Bool). cond b 1 0 + times x (numbers_of xs)) (ne_eqb x e.number (λ same. other (sym same))) ∙ same

times-swap : (x : ℕ) (e f : Entry) (xs : List Entry) → times x (numbers_of (e ∷ f ∷ xs)) ≡ times x (numbers_of (f ∷ e ∷ xs))
times-swap x e f xs = omega arith

pub times-inserted : (x : ℕ) (e : Entry) (xs : List Entry) → times x (numbers_of (inserted e xs)) ≡ times x (numbers_of (e ∷ xs))
times-inserted x e [] = refl
times-inserted x e (f ∷ xs) = elim (cases_lt f.number e.number) [
  | inl later ↦
      ap (λ (l : List Entry). times x (numbers_of l)) (inserted-later e f xs later)
      ∙ ap (λ (k : ℕ). cond (eqb x f.number) 1 0 + k) (times-inserted x e xs)
      ∙ times-swap x f e xs
  | inr first ↦ ap (λ (l : List Entry). times x (numbers_of l)) (inserted-first e f xs first)
]

pub times-by_number : (x : ℕ) (xs : List Entry) → times x (numbers_of (by_number xs)) ≡ times x (numbers_of xs)
times-by_number x [] = refl
times-by_number x (e ∷ xs) =
    times-inserted x e (by_number xs) ∙ ap (λ (k : ℕ). cond (eqb x e.number) 1 0 + k) (times-by_number x xs)

length-inserted : (e : Entry) (xs : List Entry) → length (inserted e xs) ≡ suc (length xs)
length-inserted e [] = refl
length-inserted e (f ∷ xs) = elim (cases_lt f.number e.number) [
  | inl later ↦ ap (length {A = Entry}) (inserted-later e f xs later) ∙ ap suc (length-inserted e xs)
  | inr first ↦ ap (length {A = Entry}) (inserted-first e f xs first)
]

pub length-by_number : (xs : List Entry) → length (by_number xs) ≡ length xs
length-by_number [] = refl
length-by_number (e ∷ xs) = length-inserted e (by_number xs) ∙ ap suc (length-by_number xs)

-- none of the greater numbers is a smaller one
times-above : (x q : ℕ) (xs : List Entry) → AreFrom q xs → x < q → times x (numbers_of xs) ≡ 0
times-above x q [] above below = refl
times-above x q (e ∷ xs) above below =
    let other : e.number ≡ x → ⊥ = λ same. omega (arith, above.0, below, same) in
    times-other x e xs other ∙ times-above x q xs above.1 below

-- numbers from q on without q are from q + 1 on
from-next : (q : ℕ) (xs : List Entry) → AreFrom q xs → times q (numbers_of xs) ≡ 0 → AreFrom (suc q) xs
from-next q [] above none = tt
from-next q (e ∷ xs) above none = elim (cases_eq e.number q) [
  | inl same ↦ absurd (omega (arith, none, times-head q e xs same))
  | inr other ↦ (omega (arith, above.0, other), from-next q xs above.1 (sym (times-other q e xs other) ∙ none))
]

pub once-within : (m x : ℕ) → x < m → once_below m x ≡ 1
once-within m x below = ap (λ (b : Bool). cond b 1 0) (lt-ltb x m below)

pub once-beyond : (m x : ℕ) → m ≤ x → once_below m x ≡ 0
once-beyond m x beyond = ap (λ (b : Bool). cond b 1 0) (le-ltb x m beyond)

-- ordered entries whose numbers are those from q to below m, each once, are numbered from q on
pub record IsCountedFrom (q m : ℕ) (xs : List Entry) : Type 0 where
  pub numbered : AreNumbered q xs
  pub sized : q + length xs ≡ m

head-is : (q m : ℕ) (e : Entry) (xs : List Entry) → AreOrdered (e ∷ xs) → AreFrom q (e ∷ xs)
    → ((x : ℕ) → q ≤ x → times x (numbers_of (e ∷ xs)) ≡ once_below m x) → (e.number ≡ q) × (q < m)
head-is q m e xs ordered above each =
    let here : times e.number (numbers_of (e ∷ xs)) ≡ 1 + times e.number (numbers_of xs) = times-head e.number e xs refl in
    let within : e.number < m = elim (cases_lt e.number m) [
      | inl below ↦ below
      | inr beyond ↦ absurd (omega (arith, here, each e.number above.0, once-beyond m e.number beyond))
    ] in
    let inside : q < m = omega (arith, within, above.0) in
    elim (cases_eq e.number q) [
      | inl same ↦ (same, inside)
      | inr other ↦
          let greater : q < e.number = omega (arith, above.0, other) in
          let none : times q (numbers_of xs) ≡ 0 = times-above q e.number xs ordered.0 greater in
          absurd (omega (arith, none, times-other q e xs other, each q (omega arith), once-within m q inside))
    ]

pub counted-from : (q m : ℕ) (xs : List Entry) → AreOrdered xs → AreFrom q xs → q ≤ m
    → ((x : ℕ) → q ≤ x → times x (numbers_of xs) ≡ once_below m x) → IsCountedFrom q m xs
counted-from q m [] ordered above within each = elim (cases_lt q m) [
  | inl below ↦ absurd (omega (arith, each q (omega arith), once-within m q below))
  | inr beyond ↦ record { numbered = tt; sized = omega (arith, within, beyond) }
]
counted-from q m (e ∷ xs) ordered above within each =
    let head = head-is q m e xs ordered above each in
    let none : times q (numbers_of xs) ≡ 0 =
    omega (arith, times-head q e xs head.0, each q (omega arith), once-within m q head.1) in
    let rest : (x : ℕ) → suc q ≤ x → times x (numbers_of xs) ≡ once_below m x =
    λ x beyond. sym (times-other x e xs (λ same. omega (arith, head.0, same, beyond))) ∙ each x (omega (arith, beyond)) in
    let more = counted-from (suc q) m xs ordered.1 (from-next q xs above.1 none) (omega (arith, head.1)) rest in
    record { numbered = (head.0, more.numbered); sized = omega (arith, more.sized) }

from-zero : (xs : List Entry) → AreFrom 0 xs
from-zero [] = tt
from-zero (x ∷ xs) = (omega arith, from-zero xs)

pub by_number-counted : (m : ℕ) (xs : List Entry) → HoldsEachBelow m (numbers_of xs) → IsCountedFrom 0 m (by_number xs)
by_number-counted m xs each =
    counted-from 0 m (by_number xs) (ordered-by_number xs) (from-zero (by_number xs)) (omega arith)
    (λ x from. times-by_number x xs ∙ each x)
