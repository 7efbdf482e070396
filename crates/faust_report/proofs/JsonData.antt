-- The data of a report have no float.
use Rattle.std.proofs.Common.{◌≡◌, ℕ, Bool, true, false, List, [], ◌∷◌, ◌++◌, map, flat_map, Option, Some, None, refl, ap, ◌∙◌, true≢false}
use Rattle.std.specs.Prelude.{◌||◌}
use Rattle.serde_json.specs.Data.{Data}
use Rattle.serde_json.specs.View.{items_of}
use Rattle.serde_json.specs.Written.{has_float, items_have_float}
use Rattle.faust_types.specs.declared.operation.OpName.{OpName}
use Rattle.faust_record.specs.declared.findings.Fact.{Fact}
use Rattle.faust_record.specs.declared.findings.Findings.{Findings}
use Rattle.faust_report.specs.Json.{cut_data, cuts_in, departure_data, done_in, failure_data, failures_in, list_data, name_data, names_data, number_data, order_data, report_data, some_data}

either : (a b : Bool) → a ≡ false → b ≡ false → (a || b) ≡ false
either a b e f = ap (λ (x : Bool). x || b) e ∙ f

first_false : (a b : Bool) → (a || b) ≡ false → a ≡ false
first_false true b e = e
first_false false b e = refl

second_false : (a b : Bool) → (a || b) ≡ false → b ≡ false
second_false true b e = absurd (true≢false e)
second_false false b e = e

items-append : (xs ys : List Data) → items_have_float (items_of xs) ≡ false → items_have_float (items_of ys) ≡ false
    → items_have_float (items_of (xs ++ ys)) ≡ false
items-append [] ys first second = second
items-append (x ∷ xs) ys first second =
    let rest = items_have_float (items_of xs) in
    either (has_float x) (items_have_float (items_of (xs ++ ys))) (first_false (has_float x) rest first)
    (items-append xs ys (second_false (has_float x) rest first) second)

items-map : {A : Type 0} (each : A → Data) → ((x : A) → has_float (each x) ≡ false) → (xs : List A)
    → items_have_float (items_of (map each xs)) ≡ false
items-map each none [] = refl
items-map each none (x ∷ xs) = either (has_float (each x)) _ (none x) (items-map each none xs)

items-flat : {A : Type 0} (each : A → List Data) → ((x : A) → items_have_float (items_of (each x)) ≡ false) → (xs : List A)
    → items_have_float (items_of (flat_map each xs)) ≡ false
items-flat each none [] = refl
items-flat each none (x ∷ xs) = items-append (each x) (flat_map each xs) (none x) (items-flat each none xs)

-- Each part of the report.
names-none : (names : List OpName) → has_float (names_data names) ≡ false
names-none names = items-map name_data (λ name. refl) names

some-none : {A : Type 0} (each : A → Data) → ((x : A) → has_float (each x) ≡ false) → (found : Option A)
    → items_have_float (items_of (some_data each found)) ≡ false
some-none each none None = refl
some-none each none (Some x) = either (has_float (each x)) false (none x) refl

cut-none : (entry client : ℕ) (cut : List ℕ) → has_float (cut_data entry client cut) ≡ false
cut-none entry client cut = either (has_float (list_data (map number_data cut))) false (items-map number_data (λ x. refl) cut) refl

cuts-none : (facts : List Fact) → has_float (list_data (flat_map cuts_in facts)) ≡ false
cuts-none facts =
    items-flat cuts_in (λ fact. some-none (cut_data fact.entry fact.client) (cut-none fact.entry fact.client) fact.cut) facts

done-none : (facts : List Fact) → has_float (list_data (flat_map done_in facts)) ≡ false
done-none facts = items-flat done_in (λ fact. some-none (λ answer. name_data answer.op.name) (λ answer. refl) fact.done) facts

failures-none : (facts : List Fact) → has_float (list_data (flat_map failures_in facts)) ≡ false
failures-none facts =
    items-flat failures_in (λ fact. some-none (failure_data fact.entry fact.client) (λ notice. refl) fact.notice) facts

departure-none : (departure : Option ℕ) → has_float (departure_data departure) ≡ false
departure-none None = refl
departure-none (Some entry) = refl

order-none : (departure : Option ℕ) (order : List OpName) → has_float (order_data departure order) ≡ false
order-none None order = names-none order
order-none (Some entry) order = refl

pub report-none : (found : Findings) → has_float (report_data found) ≡ false
report-none found =
    let cuts = list_data (flat_map cuts_in found.facts) in
    let departure = departure_data found.departure in
    let done = list_data (flat_map done_in found.facts) in
    let failures = list_data (flat_map failures_in found.facts) in
    let order = order_data found.departure found.order in
    let views = list_data (map names_data found.views) in
    either (has_float cuts) _ (cuts-none found.facts)
    (either (has_float departure) _ (departure-none found.departure)
    (either (has_float done) _ (done-none found.facts)
    (either (has_float failures) _ (failures-none found.facts)
    (either (has_float order) _ (order-none found.departure found.order)
    (either (has_float views) false (items-map names_data names-none found.views) refl)))))
