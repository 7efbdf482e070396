use Rattle.std.proofs.Common.{◌≡◌, ◌+◌, ◌∷◌, [], ◌++◌, ℕ, Bool, cond, List, map, eqb, ltb, inl, inr, refl, sym, ap, ◌∙◌, subst, arith}
use Rattle.std.proofs.lemmas.Bool.{cases_eq, le-ltb, ne_eqb}
use Rattle.std.proofs.lemmas.List.{append-nil, map-append}
use Rattle.faust_types.specs.declared.arrival.Arrival.{Arrival}
use Rattle.faust_record.specs.Journals.{Log}
use Rattle.faust_record.specs.Merging.{AreEachBelow, HoldsEachBelow, entry_of, gathered, numbers_of, once_below, times}
use Rattle.faust_record.specs.declared.entry.Entry.{Entry}
use Rattle.faust_record.proofs.tests.merging.merged.Goals as goal

-- 0 and 1 stand once each, and no other number does
two-numbers : HoldsEachBelow 2 (0 ∷ 1 ∷ [])
two-numbers x = elim (cases_eq x 0) [
  | inl first ↦ subst (λ (k : ℕ). times k (0 ∷ 1 ∷ []) ≡ once_below 2 k) (sym first) refl
  | inr no_first ↦ elim (cases_eq x 1) [
    | inl second ↦ subst (λ (k : ℕ). times k (0 ∷ 1 ∷ []) ≡ once_below 2 k) (sym second) refl
    | inr no_second ↦
        ap (λ (b : Bool). cond b 1 0 + (cond (eqb x 1) 1 0 + 0)) (ne_eqb x 0 no_first)
        ∙ ap (λ (b : Bool). 0 + (cond b 1 0 + 0)) (ne_eqb x 1 no_second)
        ∙ sym (ap (λ (b : Bool). cond b 1 0) (le-ltb x 2 (omega (arith, no_first, no_second))))
  ]
]

counted : (logs : List Log) (arrivals : List Arrival) (first second : Log) (arrival : Arrival) → logs ≡ first ∷ second ∷ []
    → arrivals ≡ arrival ∷ [] → numbers_of (first.entries ++ second.entries) ≡ 0 ∷ [] → arrival.number ≡ 1
    → AreEachBelow (numbers_of (gathered logs arrivals))
counted logs arrivals first second arrival logs_are arrivals_are numbers number =
    let all : numbers_of (gathered logs arrivals) ≡ 0 ∷ 1 ∷ [] =
    ap (λ (l : List Log). numbers_of (gathered l arrivals)) logs_are
    ∙ ap (λ (l : List Arrival). numbers_of (gathered (first ∷ second ∷ []) l)) arrivals_are
    ∙ ap (λ (l : List Entry). numbers_of ((first.entries ++ l) ++ entry_of arrival ∷ [])) (append-nil second.entries)
    ∙ map-append (λ (e : Entry). e.number) (first.entries ++ second.entries) (entry_of arrival ∷ [])
    ∙ ap (λ (l : List ℕ). l ++ arrival.number ∷ []) numbers
    ∙ ap (λ (k : ℕ). 0 ∷ k ∷ []) number in
    record { count = 2; each_once = subst (HoldsEachBelow 2) (sym all) two-numbers }

pub merge-requires-clause-numbers : goal.merge-requires-clause-numbers
merge-requires-clause-numbers c =
    let first = c.args.first in
    let second = c.args.second in
    let arrival : ℕ → List ℕ → Arrival = λ (k : ℕ) (m : List ℕ). record { number = k; client = c.args.from; message = m } in
    let logs : c.push-2.new.self ≡ first ∷ second ∷ [] =
    c.in_ok-push-2.ensures.ok
    ∙ ap (λ (l : List Log). l ++ second ∷ []) (c.in_ok-push.ensures.ok ∙ ap (λ (l : List Log). l ++ first ∷ []) c.new-journals.ensures) in
    let arrivals : c.push-3.new.self ≡ arrival 1 c.in_ok-bytes_of.field-0 ∷ [] =
    c.in_ok-push-3.ensures.ok ∙ ap (λ (l : List Arrival). l ++ arrival 1 c.in_ok-bytes_of.field-0 ∷ []) c.new-arrivals.ensures in
    counted c.push-2.new.self c.push-3.new.self first second (arrival 1 c.in_ok-bytes_of.field-0) logs arrivals c.requires.numbers refl
