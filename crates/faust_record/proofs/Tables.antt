-- Entries put in the places of their numbers stand in the order of their numbers.
use Rattle.std.proofs.Common.{◌≡◌, ◌+◌, ◌<◌, ◌≤◌, ℕ, zero, suc, Bool, true, false, cond, List, [], ◌∷◌, ◌++◌, length, map, reverse, refl, sym, ap, ◌∙◌, subst, inl, inr, arith, append_assoc, length-append}
use Rattle.std.proofs.lemmas.Bool.{cases_eq, cases_lt}
use Rattle.std.proofs.lemmas.List.{flat_map_more, length-set, map_push, nil_from_length, reverse-append, set_at, set_comm}
use Rattle.std.specs.Prelude.{slice_set}
use Rattle.faust_agent.specs.State.{Member}
use Rattle.faust_record.specs.Journals.{Log, member_of}
use Rattle.faust_record.specs.Merging.{HoldsEachBelow, by_number, inserted, logged_in, numbers_of, once_below, times}
use Rattle.faust_record.specs.Placing.{AreBelow, placed}
use Rattle.faust_record.specs.Runs.{AreNumbered}
use Rattle.faust_record.specs.declared.entry.Entry.{Entry}
use Rattle.faust_record.proofs.Sorting.{by_number-counted, inserted-first, inserted-later, length-by_number, once-beyond, once-within, times-head, times-other, times-inserted}

pub length-placed : (table xs : List Entry) → length (placed table xs) ≡ length table
length-placed table [] = refl
length-placed table (x ∷ xs) = length-set (placed table xs) x.number x ∙ length-placed table xs

pub placed-append : (table xs ys : List Entry) → placed table (xs ++ ys) ≡ placed (placed table ys) xs
placed-append table [] ys = refl
placed-append table (x ∷ xs) ys = ap (λ (l : List Entry). slice_set l x.number x) (placed-append table xs ys)

-- two entries with different numbers
times-in : (x : ℕ) (e f : Entry) (xs : List Entry) → times x (numbers_of (f ∷ xs)) ≡ 0 → (f.number ≡ x → ⊥) × (times x (numbers_of xs) ≡ 0)
times-in x e f xs none =
    let other : f.number ≡ x → ⊥ = λ same. omega (arith, none, times-head x f xs same) in
    (other, sym (times-other x f xs other) ∙ none)

placed-inserted : (table : List Entry) (e : Entry) (xs : List Entry) → times e.number (numbers_of xs) ≡ 0
    → placed table (inserted e xs) ≡ slice_set (placed table xs) e.number e
placed-inserted table e [] none = refl
placed-inserted table e (f ∷ xs) none =
    let parts = times-in e.number e f xs none in
    elim (cases_lt f.number e.number) [
      | inl later ↦
          let apart : e.number ≡ f.number → ⊥ = λ same. parts.0 (sym same) in
          ap (placed table) (inserted-later e f xs later)
          ∙ ap (λ (l : List Entry). slice_set l f.number f) (placed-inserted table e xs parts.1)
          ∙ set_comm (placed table xs) e.number f.number e f apart
      | inr first ↦ ap (placed table) (inserted-first e f xs first)
    ]

-- where no number stands twice
abbrev AreDistinct : List Entry → Type 0
AreDistinct [] = Unit {0}
AreDistinct (x ∷ xs) = (times x.number (numbers_of xs) ≡ 0) × AreDistinct xs

times-tail : (x : ℕ) (e : Entry) (xs : List Entry) → times x (numbers_of xs) ≤ times x (numbers_of (e ∷ xs))
times-tail x e xs = omega arith

distinct-counted : (m : ℕ) (xs : List Entry) → ((x : ℕ) → times x (numbers_of xs) ≤ once_below m x) → AreDistinct xs
distinct-counted m [] each = tt
distinct-counted m (e ∷ xs) each =
    let once : once_below m e.number ≤ 1 = elim (cases_lt e.number m) [
      | inl below ↦ omega (arith, once-within m e.number below)
      | inr beyond ↦ omega (arith, once-beyond m e.number beyond)
    ] in
    let none : times e.number (numbers_of xs) ≡ 0 = omega (arith, times-head e.number e xs refl, each e.number, once) in
    (none, distinct-counted m xs (λ x. omega (arith, times-tail x e xs, each x)))

times-sorted : (x : ℕ) (xs : List Entry) → times x (numbers_of (by_number xs)) ≡ times x (numbers_of xs)
times-sorted x [] = refl
times-sorted x (e ∷ xs) = times-inserted x e (by_number xs) ∙ omega (arith, times-sorted x xs)

placed-by_number : (table xs : List Entry) → AreDistinct xs → placed table (by_number xs) ≡ placed table xs
placed-by_number table [] distinct = refl
placed-by_number table (e ∷ xs) distinct =
    placed-inserted table e (by_number xs) (times-sorted e.number xs ∙ distinct.0)
    ∙ ap (λ (l : List Entry). slice_set l e.number e) (placed-by_number table xs distinct.1)

-- numbered entries are put where they stand
placed-numbered : (q : ℕ) (front blanks xs : List Entry) → AreNumbered q xs → length front ≡ q → length blanks ≡ length xs
    → placed (front ++ blanks) xs ≡ front ++ xs
placed-numbered q front blanks [] numbered sized room = ap (λ (l : List Entry). front ++ l) (nil_from_length blanks room)
placed-numbered q front [] (x ∷ xs) numbered sized room = absurd (omega (arith, room))
placed-numbered q front (b ∷ blanks) (x ∷ xs) numbered sized room =
    let rest : placed ((front ++ b ∷ []) ++ blanks) xs ≡ (front ++ b ∷ []) ++ xs =
    placed-numbered (suc q) (front ++ b ∷ []) blanks xs numbered.1 (length-append front (b ∷ [])
    ∙ omega (arith, sized)) (omega (arith, room)) in
    let whole : placed (front ++ b ∷ blanks) xs ≡ front ++ b ∷ xs =
    ap (λ (l : List Entry). placed l xs) (sym (append_assoc front (b ∷ []) blanks)) ∙ rest ∙ append_assoc front (b ∷ []) xs in
    ap (λ (l : List Entry). slice_set l x.number x) whole
    ∙ set_at front b xs x x.number (sized ∙ sym numbered.0)

-- a table that has a place for each entry
pub placed-counted : (m : ℕ) (table xs : List Entry) → HoldsEachBelow m (numbers_of xs) → length table ≡ length xs
    → placed table xs ≡ by_number xs
placed-counted m table xs each sized =
    let distinct : AreDistinct xs = distinct-counted m xs (λ x. omega (arith, each x)) in
    let counted = by_number-counted m xs each in
    let room : length table ≡ length (by_number xs) = sized ∙ sym (length-by_number xs) in
    sym (placed-by_number table xs distinct) ∙ placed-numbered 0 [] table (by_number xs) counted.numbered refl room

pub below-append : (m : ℕ) (xs ys : List Entry) → AreBelow m (xs ++ ys) → AreBelow m xs × AreBelow m ys
below-append m [] ys all = (tt, all)
below-append m (x ∷ xs) ys all = let rest = below-append m xs ys all.1 in ((all.0, rest.0), rest.1)

below-counted-by : (m : ℕ) (xs : List Entry) → ((x : ℕ) → times x (numbers_of xs) ≤ once_below m x) → AreBelow m xs
below-counted-by m [] each = tt
below-counted-by m (e ∷ xs) each =
    let within : e.number < m = elim (cases_lt e.number m) [
      | inl below ↦ below
      | inr beyond ↦ absurd (omega (arith, times-head e.number e xs refl, each e.number, once-beyond m e.number beyond))
    ] in
    (within, below-counted-by m xs (λ x. omega (arith, times-tail x e xs, each x)))

pub below-counted : (m : ℕ) (xs : List Entry) → HoldsEachBelow m (numbers_of xs) → AreBelow (length xs) xs
below-counted m xs each =
    let counted = by_number-counted m xs each in
    let sized : m ≡ length xs = omega (arith, counted.sized, length-by_number xs) in
    subst (λ (n : ℕ). AreBelow n xs) sized (below-counted-by m xs (λ x. omega (arith, each x)))

-- the last entry is put first
pub placed-last : (table xs : List Entry) (e : Entry) → placed table (xs ++ e ∷ []) ≡ placed (slice_set table e.number e) xs
placed-last table xs e = placed-append table xs (e ∷ [])

-- one turn of putting entries in their places, from the last one on
pub put-last : (table now xs rest all : List Entry) (e : Entry) → xs ≡ rest ++ e ∷ [] → now ≡ slice_set table e.number e
    → placed table xs ≡ all → AreBelow (length table) xs → (placed now rest ≡ all) × AreBelow (length now) rest
put-last table now xs rest all e last set put below =
    let sized : length now ≡ length table = ap (length {A = Entry}) set ∙ length-set table e.number e in
    let parts = below-append (length table) rest (e ∷ []) (subst (AreBelow (length table)) last below) in (
      ap (λ (l : List Entry). placed l rest) set ∙ sym (placed-last table rest e) ∙ ap (placed table) (sym last) ∙ put,
      subst (λ (n : ℕ). AreBelow n rest) (sym sized) parts.0,
    )

pub last-below : (m : ℕ) (xs rest : List Entry) (e : Entry) → xs ≡ rest ++ e ∷ [] → AreBelow m xs → e.number < m
last-below m xs rest e last below = (below-append m rest (e ∷ []) (subst (AreBelow m) last below)).1.0

-- one turn of putting whole lists in their places
pub put-behind : (table now xs rest own all : List Entry) → xs ≡ rest ++ own → now ≡ placed table own
    → placed table xs ≡ all → AreBelow (length table) xs → (placed now rest ≡ all) × AreBelow (length now) rest
put-behind table now xs rest own all last set put below =
    let sized : length now ≡ length table = ap (length {A = Entry}) set ∙ length-placed table own in
    let parts = below-append (length table) rest own (subst (AreBelow (length table)) last below) in (
      ap (λ (l : List Entry). placed l rest) set ∙ sym (placed-append table rest own) ∙ ap (placed table) (sym last) ∙ put,
      subst (λ (n : ℕ). AreBelow n rest) (sym sized) parts.0,
    )

pub behind-below : (m : ℕ) (xs rest own : List Entry) → xs ≡ rest ++ own → AreBelow m xs → AreBelow m own
behind-below m xs rest own last below = (below-append m rest own (subst (AreBelow m) last below)).1

-- the entries of one more journal
pub logged_in-last : (logs : List Log) (log : Log) → logged_in (logs ++ log ∷ []) ≡ logged_in logs ++ log.entries
logged_in-last logs log = sym (flat_map_more (λ (l : Log). l.entries) [] logs log)

-- the agents of the journals from the last one on
pub agents-last : (logs rest : List Log) (log : Log) (agents now : List Member) (agent : Member) (all : List Member)
    → logs ≡ rest ++ log ∷ [] → now ≡ agents ++ agent ∷ [] → agent ≡ member_of log → map member_of logs ++ reverse agents ≡ all
    → map member_of rest ++ reverse now ≡ all
agents-last logs rest log agents now agent all last more is whole =
    let turned : reverse now ≡ member_of log ∷ reverse agents =
    ap (reverse {A = Member}) more ∙ reverse-append agents (agent ∷ []) ∙ ap (λ (m : Member). m ∷ reverse agents) is in
    ap (λ (l : List Member). map member_of rest ++ l) turned
    ∙ sym (append_assoc (map member_of rest) (member_of log ∷ []) (reverse agents))
    ∙ ap (λ (l : List Member). l ++ reverse agents) (sym (ap (map member_of) last ∙ map_push member_of rest log))
    ∙ whole
