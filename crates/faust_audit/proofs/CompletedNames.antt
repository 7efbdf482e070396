-- The numbers that the code keeps are those of the operations that completed.
use Rattle.std.proofs.Common.{◌≡◌, ◌==◌, ◌+◌, ◌-◌, ℕ, Bool, true, false, cond, List, [], ◌∷◌, ◌++◌, length, take, Option, Some, None, option_to_list, refl, sym, ap, ◌∙◌, subst, inl, inr, arith, append_assoc, length-set}
use Rattle.std.specs.Prelude.{◌&&◌, ◌||◌, is_some, nat_lt, option_map, replicate, slice_set}
use Rattle.std.specs.Ordering.{is_eq, match_ordering, nat_cmp}
use Rattle.std.specs.declared.cmp.Ordering.TheVariants.{Less, Equal, Greater}
use Rattle.std.specs.BTreeMap.{is_at}
use Rattle.std.proofs.lemmas.List.{get_or-replicate, length-replicate}
use Rattle.std.proofs.lemmas.Bool.{cases_eq, eq-eqb, eqb-true, ltb-true, ne_eqb}
use Rattle.faust_types.specs.Clients.{IsClient}
use Rattle.faust_types.specs.declared.operation.Answer.{Answer}
use Rattle.faust_types.specs.declared.operation.OpName.{OpName}
use Rattle.faust_record.specs.Operations.{Finished, completion_named, finished_among, finished_in, first_finished, is_named}
use Rattle.faust_record.specs.Runs.{entries_of}
use Rattle.faust_record.specs.declared.entry.Entry.{Entry}
use Rattle.faust_record.proofs.Agents.{set-other, set-own}
use Rattle.faust_record.proofs.Own.{entries_of-other, entries_of-own}
use Rattle.faust_record.proofs.Fed.{IsAt}
use Rattle.faust_audit.specs.Completing.{AreCompleted, completed_with, has_number, numbers_at, with_number}

-- one more number
or-swap : (a b c : Bool) → (a || (b || c)) ≡ (b || (a || c))
or-swap true true c = refl
or-swap true false c = refl
or-swap false b c = refl

or-same : (a b c : Bool) → a ≡ b → (b || c) ≡ (a || (b || c))
or-same true b c same = ap (λ (x : Bool). x || c) (sym same)
or-same false b c same = refl

put-step : (less same : Bool) (t x : ℕ) (xs more : List ℕ) (q : ℕ) → (same ≡ true → is_at (nat_cmp q) x ≡ is_at (nat_cmp q) t)
    → has_number more q ≡ (is_at (nat_cmp q) t || has_number xs q)
    → has_number (match_ordering (cond less Less (cond same Equal Greater)) (t ∷ x ∷ xs) (x ∷ xs) (x ∷ more)) q
    ≡ (is_at (nat_cmp q) t || has_number (x ∷ xs) q)
put-step true same t x xs more q equal rest = refl
put-step false true t x xs more q equal rest =
    or-same (is_at (nat_cmp q) t) (is_at (nat_cmp q) x) (has_number xs q) (sym (equal refl))
put-step false false t x xs more q equal rest =
    ap (λ (b : Bool). is_at (nat_cmp q) x || b) rest ∙ or-swap (is_at (nat_cmp q) x) (is_at (nat_cmp q) t) (has_number xs q)

put-number : (ks : List ℕ) (t q : ℕ) → has_number (with_number ks t) q ≡ (is_at (nat_cmp q) t || has_number ks q)
put-number [] t q = refl
put-number (x ∷ xs) t q =
    put-step (nat_lt t x) (t == x) t x xs (with_number xs t) q
    (λ same. ap (λ (k : ℕ). is_at (nat_cmp q) k) (sym (eqb-true t x same))) (put-number xs t q)

equal-of : (less same : Bool) → (less ≡ true → same ≡ false) → is_eq (cond less Less (cond same Equal Greater)) ≡ same
equal-of true same apart = sym (apart refl)
equal-of false true apart = refl
equal-of false false apart = refl

at-number : (q t : ℕ) → is_at (nat_cmp q) t ≡ (q == t)
at-number q t =
    equal-of (nat_lt q t) (q == t) (λ less. ne_eqb q t (λ same. omega (arith, ltb-true q t less, same)))

has-more : (ks : List ℕ) (t q : ℕ) → has_number (with_number ks t) q ≡ ((q == t) || has_number ks q)
has-more ks t q = put-number ks t q ∙ ap (λ (b : Bool). b || has_number ks q) (at-number q t)

-- one more entry of a client
pub finished-append : (xs ys : List Entry) → finished_among (xs ++ ys) ≡ finished_among xs ++ finished_among ys
finished-append [] ys = refl
finished-append (x ∷ xs) ys =
    ap (λ (l : List Finished). option_to_list (finished_in x) ++ l) (finished-append xs ys)
    ∙ sym (append_assoc (option_to_list (finished_in x)) (finished_among xs) (finished_among ys))

or-nothing : (b : Bool) → (b || false) ≡ b
or-nothing true = refl
or-nothing false = refl

some-or : (b : Bool) (x : Finished) (o : Option Finished) (c : Bool) → is_some o ≡ c → is_some (cond b (Some x) o) ≡ (b || c)
some-or true x o c same = refl
some-or false x o c same = same

or-assoc : (a b c : Bool) → (a || (b || c)) ≡ ((a || b) || c)
or-assoc true b c = refl
or-assoc false b c = refl

found-append : (name : OpName) (xs ys : List Finished)
    → is_some (first_finished name (xs ++ ys)) ≡ (is_some (first_finished name xs) || is_some (first_finished name ys))
found-append name [] ys = refl
found-append name (x ∷ xs) ys =
    some-or (is_named name x.answer.op.name) x (first_finished name (xs ++ ys))
    (is_some (first_finished name xs) || is_some (first_finished name ys)) (found-append name xs ys)
    ∙ or-assoc (is_named name x.answer.op.name) (is_some (first_finished name xs)) (is_some (first_finished name ys))
    ∙ ap (λ (b : Bool). b || is_some (first_finished name ys))
    (sym (some-or (is_named name x.answer.op.name) x (first_finished name xs) (is_some (first_finished name xs)) refl))

-- whether an answer completes the operation of this name
abbrev completes : OpName → Option Answer → Bool
completes name None = false
completes name (Some answer) = is_named name answer.op.name

found-in : (name : OpName) (number : ℕ) (answer : Option Answer)
    → is_some (first_finished name (option_to_list (option_map (λ (a : Answer). record { answer = a; number = number }) answer) ++ []))
    ≡ completes name answer
found-in name number None = refl
found-in name number (Some answer) =
    some-or (is_named name answer.op.name) (record { answer = answer; number = number }) None false refl
    ∙ or-nothing (is_named name answer.op.name)

own-more : (xs : List Entry) (e : Entry) (t : ℕ)
    → is_some (completion_named (xs ++ e ∷ []) (record { client = e.client; t = t }))
    ≡ (is_some (completion_named xs (record { client = e.client; t = t }))
    || completes (record { client = e.client; t = t }) e.outcome.answer)
own-more xs e t =
    let name : OpName = record { client = e.client; t = t } in
    let own : List Entry = entries_of e.client xs in
    ap (λ (l : List Entry). is_some (first_finished name (finished_among l))) (entries_of-own e.client xs e refl)
    ∙ ap (λ (l : List Finished). is_some (first_finished name l)) (finished-append own (e ∷ []))
    ∙ found-append name (finished_among own) (finished_among (e ∷ []))
    ∙ ap (λ (b : Bool). is_some (first_finished name (finished_among own)) || b) (found-in name e.number e.outcome.answer)

-- the numbers of client i after an answer
eqb-sym : (a b : ℕ) → (a == b) ≡ (b == a)
eqb-sym a b = elim (cases_eq a b) [
  | inl same ↦ eq-eqb a b same ∙ sym (eq-eqb b a (sym same))
  | inr apart ↦ ne_eqb a b apart ∙ sym (ne_eqb b a (λ same. apart (sym same)))
]

or-last : (a b : Bool) → (a || b) ≡ (b || a)
or-last true true = refl
or-last true false = refl
or-last false true = refl
or-last false false = refl

numbered-as : (n : ℕ) (numbers : List (List ℕ)) (i t : ℕ) (name : OpName) (b : Bool) → length numbers ≡ n → IsClient n i
    → has_number (numbers_at (cond b (slice_set numbers (i - 1) (with_number (numbers_at numbers i) name.t)) numbers) i) t
    ≡ (has_number (numbers_at numbers i) t || (b && (t == name.t)))
numbered-as n numbers i t name true counted client =
    ap (λ (ks : List ℕ). has_number ks t) (set-own numbers i (with_number (numbers_at numbers i) name.t) [] n counted client)
    ∙ has-more (numbers_at numbers i) name.t t
    ∙ or-last (t == name.t) (has_number (numbers_at numbers i) t)
numbered-as n numbers i t name false counted client = sym (or-nothing (has_number (numbers_at numbers i) t))

numbered-own : (n : ℕ) (numbers : List (List ℕ)) (i t : ℕ) (answer : Option Answer) → length numbers ≡ n → IsClient n i
    → has_number (numbers_at (completed_with numbers i answer) i) t
    ≡ (has_number (numbers_at numbers i) t || completes (record { client = i; t = t }) answer)
numbered-own n numbers i t None counted client = sym (or-nothing (has_number (numbers_at numbers i) t))
numbered-own n numbers i t (Some answer) counted client =
    numbered-as n numbers i t answer.op.name (answer.op.name.client == i) counted client
    ∙ ap (λ (c : Bool). has_number (numbers_at numbers i) t || (c && (t == answer.op.name.t))) (eqb-sym answer.op.name.client i)

numbered-apart : (n : ℕ) (numbers : List (List ℕ)) (i j : ℕ) (name : OpName) (b : Bool) → IsClient n i → IsClient n j → (i ≡ j → ⊥)
    → numbers_at (cond b (slice_set numbers (i - 1) (with_number (numbers_at numbers i) name.t)) numbers) j ≡ numbers_at numbers j
numbered-apart n numbers i j name true client within apart =
    set-other numbers i j (with_number (numbers_at numbers i) name.t) [] n client within apart
numbered-apart n numbers i j name false client within apart = refl

numbered-other : (n : ℕ) (numbers : List (List ℕ)) (i j : ℕ) (answer : Option Answer) → IsClient n i → IsClient n j → (i ≡ j → ⊥)
    → numbers_at (completed_with numbers i answer) j ≡ numbers_at numbers j
numbered-other n numbers i j None client within apart = refl
numbered-other n numbers i j (Some answer) client within apart =
    numbered-apart n numbers i j answer.op.name (answer.op.name.client == i) client within apart

counted-as : (numbers : List (List ℕ)) (i : ℕ) (ks : List ℕ) (b : Bool)
    → length (cond b (slice_set numbers (i - 1) ks) numbers) ≡ length numbers
counted-as numbers i ks true = length-set numbers (i - 1) ks
counted-as numbers i ks false = refl

counted-after : (numbers : List (List ℕ)) (i : ℕ) (answer : Option Answer) → length (completed_with numbers i answer) ≡ length numbers
counted-after numbers i None = refl
counted-after numbers i (Some answer) =
    counted-as numbers i (with_number (numbers_at numbers i) answer.op.name.t) (answer.op.name.client == i)

pub completed-more : (n : ℕ) (xs : List Entry) (e : Entry) (numbers : List (List ℕ)) → IsClient n e.client → AreCompleted n xs numbers
    → AreCompleted n (xs ++ e ∷ []) (completed_with numbers e.client e.outcome.answer)
completed-more n xs e numbers client done = record {
  counted = counted-after numbers e.client e.outcome.answer ∙ done.counted;
  each = λ i within t. elim (cases_eq e.client i) [
    | inl own ↦
        subst (λ (k : ℕ). has_number (numbers_at (completed_with numbers e.client e.outcome.answer) k) t
        ≡ is_some (completion_named (xs ++ e ∷ []) (record { client = k; t = t }))) own
        (numbered-own n numbers e.client t e.outcome.answer done.counted client
        ∙ ap (λ (b : Bool). b || completes (record { client = e.client; t = t }) e.outcome.answer) (done.each e.client client t)
        ∙ sym (own-more xs e t))
    | inr other ↦
        ap (λ (ks : List ℕ). has_number ks t) (numbered-other n numbers e.client i e.outcome.answer client within other)
        ∙ done.each i within t
        ∙ ap (λ (l : List Entry). is_some (first_finished (record { client = i; t = t }) (finished_among l)))
        (sym (entries_of-other i xs e other))
  ];
}

pub completed-next : (n : ℕ) (all : List Entry) (q : ℕ) (e : Entry) (numbers : List (List ℕ)) → IsAt all q e → IsClient n e.client
    → AreCompleted n (take q all) numbers → AreCompleted n (take (q + 1) all) (completed_with numbers e.client e.outcome.answer)
completed-next n all q e numbers at client done =
    subst (λ (l : List Entry). AreCompleted n l (completed_with numbers e.client e.outcome.answer)) (sym at.more)
    (completed-more n (take q all) e numbers client done)

-- before the first entry
pub completed-first : (n : ℕ) → AreCompleted n [] (replicate n [])
completed-first n = record {
  counted = length-replicate n [];
  each = λ i within t. ap (λ (ks : List ℕ). has_number ks t)
      (get_or-replicate {A = List ℕ} n (i - 1) [] [] (omega (arith, within.from_one, within.to_n)));
}
