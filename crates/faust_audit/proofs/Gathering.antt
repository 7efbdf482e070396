-- What is gathered along a run, one entry after the other.
use Rattle.std.proofs.Common.{◌≡◌, ◌+◌, ℕ, Bool, true, false, cond, List, [], ◌∷◌, ◌++◌, length, Option, Some, None, option_to_list, refl, sym, ap, ◌∙◌, append_assoc, length-append}
use Rattle.std.proofs.lemmas.List.{append-nil}
use Rattle.std.specs.Prelude.{is_none, is_some}
use Rattle.faust_types.specs.declared.config.Config.{Config}
use Rattle.faust_types.specs.declared.operation.OpName.{OpName}
use Rattle.faust_record.specs.Operations.{Started, started_among, started_in}
use Rattle.faust_record.specs.Runs.{arriving}
use Rattle.faust_record.specs.declared.entry.Entry.{Entry}
use Rattle.faust_record.proofs.Own.{kept-append}
use Rattle.faust_audit.specs.Findings.{fact_of, facts_of, order_among, ordered_at}

-- what began
pub started-append : (xs ys : List Entry) → started_among (xs ++ ys) ≡ started_among xs ++ started_among ys
started-append [] ys = refl
started-append (x ∷ xs) ys =
    ap (λ (l : List Started). option_to_list (started_in x) ++ l) (started-append xs ys)
    ∙ sym (append_assoc (option_to_list (started_in x)) (started_among xs) (started_among ys))

one-or-none : {X : Type 0} (o : Option X) → length (option_to_list o) ≡ cond (is_some o) 1 0
one-or-none {X} None = refl
one-or-none {X} (Some x) = refl

pub begun-more : (xs : List Entry) (e : Entry)
    → length (started_among (xs ++ e ∷ [])) ≡ length (started_among xs) + cond (is_some (started_in e)) 1 0
begun-more xs e =
    ap (λ (l : List Started). length l) (started-append xs (e ∷ []))
    ∙ length-append (started_among xs) (started_among (e ∷ []))
    ∙ ap (λ (k : ℕ). length (started_among xs) + k)
    (ap (λ (l : List Started). length l) (append-nil (option_to_list (started_in e))) ∙ one-or-none (started_in e))

-- the facts
facts-append : (xs ys : List Entry) → facts_of (xs ++ ys) ≡ facts_of xs ++ facts_of ys
facts-append [] ys = refl
facts-append (x ∷ xs) ys =
    kept-append (is_none (arriving x.input)) (fact_of x) (facts_of (xs ++ ys)) (facts_of xs) (facts_of ys) (facts-append xs ys)

pub facts-act : (xs : List Entry) (e : Entry) → is_none (arriving e.input) ≡ true → facts_of (xs ++ e ∷ []) ≡ facts_of xs ++ fact_of e ∷ []
facts-act xs e act = facts-append xs (e ∷ []) ∙ ap (λ (b : Bool). facts_of xs ++ cond b (fact_of e ∷ []) []) act

pub facts-arrival : (xs : List Entry) (e : Entry) → is_none (arriving e.input) ≡ false → facts_of (xs ++ e ∷ []) ≡ facts_of xs
facts-arrival xs e arrival =
    facts-append xs (e ∷ []) ∙ ap (λ (b : Bool). facts_of xs ++ cond b (fact_of e ∷ []) []) arrival ∙ append-nil (facts_of xs)

-- the order
pub order-more : (config : Config) (all xs : List Entry) (e : Entry)
    → order_among config all (xs ++ e ∷ []) ≡ order_among config all xs ++ option_to_list (ordered_at config all e)
order-more config all [] e = append-nil (option_to_list (ordered_at config all e))
order-more config all (x ∷ xs) e =
    ap (λ (l : List OpName). option_to_list (ordered_at config all x) ++ l) (order-more config all xs e)
    ∙ sym (append_assoc (option_to_list (ordered_at config all x)) (order_among config all xs) (option_to_list (ordered_at config all e)))
