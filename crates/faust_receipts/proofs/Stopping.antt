-- Which user is short.
use Rattle.std.proofs.Common.{◌≡◌, ℕ, ◌+◌, ◌<◌, ◌≤◌, ◌==◌, ◌&&◌, ◌||◌, suc, Bool, true, false, cond, List, ◌∷◌, length, drop, get_or, Some, None, is_none, refl, sym, ap, ◌∙◌, arith}
use Rattle.std.specs.List.{list_any}
use Rattle.std.proofs.lemmas.Bool.{and_from, cond-true, cond-false, eq-eqb}
use Rattle.std.proofs.lemmas.List.{drop_all, drop_more}
use Rattle.faust_record.specs.Laws.{acts_of}
use Rattle.faust_record.specs.Runs.{arriving, entries_of}
use Rattle.faust_record.specs.declared.entry.Entry.{Entry}
use Rattle.faust_record.proofs.Fed.{at-place}
use Rattle.faust_receipts.specs.Lines.{first_short, has_notice, is_short, short_line}
use Rattle.faust_node.specs.declared.receipt.Receipt.{Receipt}

-- one user after the other
next-short : (entries : List Entry) (ops k : ℕ) (all : List (List Receipt)) (receipts d : List Receipt) → k < length all
    → receipts ≡ get_or all k d
    → first_short entries ops (k + 1) (drop k all)
    ≡ cond (is_short entries ops (k + 1) receipts) (Some (short_line (k + 1) (length receipts) ops))
    (first_short entries ops ((k + 1) + 1) (drop (k + 1) all))
next-short entries ops k all receipts d within is =
    let one : suc (k + 1) ≡ (k + 1) + 1 = omega arith in
    ap (first_short entries ops (k + 1)) (drop_more all k d within ∙ ap (λ (r : List Receipt). r ∷ drop (k + 1) all) (sym is))
    ∙ ap (λ (i : ℕ). cond (is_short entries ops (k + 1) receipts) (Some (short_line (k + 1) (length receipts) ops))
    (first_short entries ops i (drop (k + 1) all))) one

pub user-has : (entries : List Entry) (ops k : ℕ) (all : List (List Receipt)) (receipts d : List Receipt) → k < length all
    → receipts ≡ get_or all k d → is_short entries ops (k + 1) receipts ≡ false
    → first_short entries ops (k + 1) (drop k all) ≡ first_short entries ops ((k + 1) + 1) (drop (k + 1) all)
user-has entries ops k all receipts d within is has = next-short entries ops k all receipts d within is ∙ cond-false _ _ _ has

pub user-short : (entries : List Entry) (ops k : ℕ) (all : List (List Receipt)) (receipts d : List Receipt) → k < length all
    → receipts ≡ get_or all k d → is_short entries ops (k + 1) receipts ≡ true
    → first_short entries ops (k + 1) (drop k all) ≡ Some (short_line (k + 1) (length receipts) ops)
user-short entries ops k all receipts d within is short = next-short entries ops k all receipts d within is ∙ cond-true _ _ _ short

pub no-user : (entries : List Entry) (ops i k : ℕ) (all : List (List Receipt)) → length all ≤ k
    → first_short entries ops i (drop k all) ≡ None
no-user entries ops i k all past = ap (first_short entries ops i) (drop_all k all past)

-- the entries from one on, and those behind it
notice-one : (e : Entry) (own : List Entry) (b : Bool) → list_any has_notice (cond b (e ∷ own) own)
    ≡ ((b && has_notice e) || list_any has_notice own)
notice-one e own true = refl
notice-one e own false = refl

pub notice-rest : (i : ℕ) (all : List Entry) (q : ℕ) (e d : Entry) → q < length all → e ≡ get_or all q d
    → list_any has_notice (entries_of i (drop q all))
    ≡ (((e.client == i) && has_notice e) || list_any has_notice (entries_of i (drop (q + 1) all)))
notice-rest i all q e d within is =
    ap (λ (l : List Entry). list_any has_notice (entries_of i l)) (at-place all q e d within is).here
    ∙ notice-one e (entries_of i (drop (q + 1) all)) (e.client == i)

pub no-notice : (i : ℕ) (all : List Entry) (q : ℕ) → length all ≤ q → list_any has_notice (entries_of i (drop q all)) ≡ false
no-notice i all q past = ap (λ (l : List Entry). list_any has_notice (entries_of i l)) (drop_all q all past)

act-one : (e : Entry) (own : List Entry) (b : Bool) → length (cond b (e ∷ own) own) ≡ cond b 1 0 + length own
act-one e own true = omega arith
act-one e own false = omega arith

pub acts-rest : (i : ℕ) (all : List Entry) (q : ℕ) (e d : Entry) → q < length all → e ≡ get_or all q d
    → length (acts_of i (drop q all))
    ≡ cond ((e.client == i) && is_none (arriving e.input)) 1 0 + length (acts_of i (drop (q + 1) all))
acts-rest i all q e d within is =
    ap (λ (l : List Entry). length (acts_of i l)) (at-place all q e d within is).here
    ∙ act-one e (acts_of i (drop (q + 1) all)) ((e.client == i) && is_none (arriving e.input))

pub no-acts : (i : ℕ) (all : List Entry) (q : ℕ) → length all ≤ q → length (acts_of i (drop q all)) ≡ 0
no-acts i all q past = ap (λ (l : List Entry). length (acts_of i l)) (drop_all q all past)

-- one more entry counts, or doesn't
pub act-counts : (i : ℕ) (all : List Entry) (q : ℕ) (e d : Entry) (before now : ℕ) → q < length all → e ≡ get_or all q d
    → length (acts_of i all) ≡ before + length (acts_of i (drop q all)) → before ≤ q → e.client ≡ i
    → is_none (arriving e.input) ≡ true → now ≡ before + 1
    → (length (acts_of i all) ≡ now + length (acts_of i (drop (q + 1) all))) × (now ≤ q + 1)
act-counts i all q e d before now within is so_far few own act more =
    let both : ((e.client == i) && is_none (arriving e.input)) ≡ true = and_from _ _ (eq-eqb e.client i own) act in
    let rest : length (acts_of i (drop q all)) ≡ 1 + length (acts_of i (drop (q + 1) all)) =
    acts-rest i all q e d within is ∙ ap (λ (b : Bool). cond b 1 0 + length (acts_of i (drop (q + 1) all))) both in
    (omega (arith, so_far, rest, more), omega (arith, few, more))

pub other-counts : (i : ℕ) (all : List Entry) (q : ℕ) (e d : Entry) (before now : ℕ) → q < length all → e ≡ get_or all q d
    → length (acts_of i all) ≡ before + length (acts_of i (drop q all)) → before ≤ q
    → ((e.client == i) && is_none (arriving e.input)) ≡ false → now ≡ before
    → (length (acts_of i all) ≡ now + length (acts_of i (drop (q + 1) all))) × (now ≤ q + 1)
other-counts i all q e d before now within is so_far few other same =
    let rest : length (acts_of i (drop q all)) ≡ 0 + length (acts_of i (drop (q + 1) all)) =
    acts-rest i all q e d within is ∙ ap (λ (b : Bool). cond b 1 0 + length (acts_of i (drop (q + 1) all))) other in
    (omega (arith, so_far, rest, same), omega (arith, few, same))

pub and-not-left : (a b : Bool) → a ≡ false → (a && b) ≡ false
and-not-left a b is = ap (λ (x : Bool). x && b) is

pub and-not-right : (a b : Bool) → b ≡ false → (a && b) ≡ false
and-not-right true b is = is
and-not-right false b is = refl

-- a notice at an entry, or none
pub notice-found : (i : ℕ) (all : List Entry) (q : ℕ) (e d : Entry) → q < length all → e ≡ get_or all q d
    → list_any has_notice (entries_of i all) ≡ list_any has_notice (entries_of i (drop q all)) → e.client ≡ i → has_notice e ≡ true
    → true ≡ list_any has_notice (entries_of i all)
notice-found i all q e d within is so_far own noted =
    let both : ((e.client == i) && has_notice e) ≡ true = and_from _ _ (eq-eqb e.client i own) noted in
    sym (so_far ∙ notice-rest i all q e d within is
    ∙ ap (λ (b : Bool). b || list_any has_notice (entries_of i (drop (q + 1) all))) both)

pub notice-passed : (i : ℕ) (all : List Entry) (q : ℕ) (e d : Entry) → q < length all → e ≡ get_or all q d
    → list_any has_notice (entries_of i all) ≡ list_any has_notice (entries_of i (drop q all))
    → ((e.client == i) && has_notice e) ≡ false
    → list_any has_notice (entries_of i all) ≡ list_any has_notice (entries_of i (drop (q + 1) all))
notice-passed i all q e d within is so_far none =
    so_far ∙ notice-rest i all q e d within is
    ∙ ap (λ (b : Bool). b || list_any has_notice (entries_of i (drop (q + 1) all))) none
