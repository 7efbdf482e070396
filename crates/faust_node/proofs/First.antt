-- The first entry from a place on that has something.
use Rattle.std.proofs.Common.{◌≡◌, ◌+◌, ◌<◌, inl, inr, ◌≤◌, ℕ, zero, suc, List, [], ◌∷◌, ◌++◌, length, drop, Option, Some, None, option_to_list, slice_get, refl, sym, ap, ◌∙◌, arith}
use Rattle.std.proofs.lemmas.Bool.{cases_eq}
use Rattle.faust_types.specs.declared.operation.Answer.{Answer}
use Rattle.faust_types.specs.declared.operation.Operation.{Operation}
use Rattle.faust_types.specs.declared.outcome.Post.{Post}
use Rattle.faust_record.specs.Runs.{sent_in}
use Rattle.faust_record.specs.declared.entry.Entry.{Entry}
use Rattle.faust_node.specs.declared.receipt.Receipt.{Receipt}
use Rattle.faust_node.specs.Receipts.{GivesReceipt, IsGiven, IsReceiptOf, IsUnanswered, IsUnansweredUpTo}
use Rattle.faust_node.specs.Sending.{posts_in}

drop-entry : (entries : List Entry) (k : ℕ) (e : Entry) → slice_get entries k ≡ Some e → drop k entries ≡ e ∷ drop (suc k) entries
drop-entry [] k e is = absurd (cc)
drop-entry (x ∷ xs) zero e is =
    let same : x ≡ e = cc in
    ap (λ (y : Entry). y ∷ xs) same
drop-entry (x ∷ xs) (suc k) e is = drop-entry xs k e is

drop-past : (entries : List Entry) (k : ℕ) → length entries ≤ k → drop k entries ≡ []
drop-past [] zero past = refl
drop-past [] (suc k) past = refl
drop-past (x ∷ xs) zero past = absurd (omega (arith, past))
drop-past (x ∷ xs) (suc k) past = drop-past xs k (omega (arith, past))

pub stands-within : (entries : List Entry) (k : ℕ) → k < length entries → slice_get entries k ≡ None → ⊥
stands-within [] k inside none = omega (arith, inside)
stands-within (x ∷ xs) zero inside none = absurd (cc)
stands-within (x ∷ xs) (suc k) inside none = stands-within xs k (omega (arith, inside)) none

-- what an entry sent stands in front of what the later ones sent
sent-step : (entries : List Entry) (k : ℕ) (e : Entry) → slice_get entries k ≡ Some e
    → sent_in (drop k entries) ≡ option_to_list e.outcome.to_server ++ sent_in (drop (suc k) entries)
sent-step entries k e is = ap sent_in (drop-entry entries k e is)

pub sent-silent : (entries : List Entry) (k n : ℕ) (e : Entry) → slice_get entries k ≡ Some e → e.outcome.to_server ≡ None → n ≡ k + 1
    → sent_in (drop k entries) ≡ sent_in (drop n entries)
sent-silent entries k n e is none n_is =
    let next : suc k ≡ n = omega (arith, n_is) in
    sent-step entries k e is
    ∙ ap (λ (o : Option (List ℕ)). option_to_list o ++ sent_in (drop (suc k) entries)) none
    ∙ ap (λ (m : ℕ). sent_in (drop m entries)) next

pub sent-first : (entries : List Entry) (k n : ℕ) (e : Entry) (bytes : List ℕ) → slice_get entries k ≡ Some e
    → e.outcome.to_server ≡ Some bytes → n ≡ k + 1 → sent_in (drop k entries) ≡ bytes ∷ sent_in (drop n entries)
sent-first entries k n e bytes is some n_is =
    let next : suc k ≡ n = omega (arith, n_is) in
    sent-step entries k e is
    ∙ ap (λ (o : Option (List ℕ)). option_to_list o ++ sent_in (drop (suc k) entries)) some
    ∙ ap (λ (m : ℕ). bytes ∷ sent_in (drop m entries)) next

pub sent-past : (entries : List Entry) (k : ℕ) → length entries ≤ k → sent_in (drop k entries) ≡ []
sent-past entries k past = ap sent_in (drop-past entries k past)

pub posts-first : (entries : List Entry) (k n : ℕ) (e : Entry) → slice_get entries k ≡ Some e → n ≡ k + 1
    → posts_in (drop k entries) ≡ e.outcome.to_peers ++ posts_in (drop n entries)
posts-first entries k n e is n_is =
    let next : suc k ≡ n = omega (arith, n_is) in
    ap posts_in (drop-entry entries k e is) ∙ ap (λ (m : ℕ). e.outcome.to_peers ++ posts_in (drop m entries)) next

pub posts-silent : (entries : List Entry) (k n : ℕ) (e : Entry) → slice_get entries k ≡ Some e → e.outcome.to_peers ≡ [] → n ≡ k + 1
    → posts_in (drop k entries) ≡ posts_in (drop n entries)
posts-silent entries k n e is none n_is =
    posts-first entries k n e is n_is ∙ ap (λ (l : List Post). l ++ posts_in (drop n entries)) none

-- nothing was sent where there is no first
pub none-first : (posts : List Post) → slice_get posts 0 ≡ None → posts ≡ []
none-first [] none = refl
none-first (post ∷ posts) none = absurd (cc)

pub posts-past : (entries : List Entry) (k : ℕ) → length entries ≤ k → posts_in (drop k entries) ≡ []
posts-past entries k past = ap posts_in (drop-past entries k past)

-- what no entry before a place answers
stands-inside : (entries : List Entry) (k : ℕ) (e : Entry) → slice_get entries k ≡ Some e → k < length entries
stands-inside [] k e is = absurd (cc)
stands-inside (x ∷ xs) zero e is = omega arith
stands-inside (x ∷ xs) (suc k) e is =
    let there = stands-inside xs k e is in
    omega (arith, there)

same-answer : (entries : List Entry) (k place : ℕ) (e entry : Entry) (answer : Answer) → slice_get entries k ≡ Some e → place ≡ k
    → slice_get entries place ≡ Some entry → entry.outcome.answer ≡ Some answer → e.outcome.answer ≡ Some answer
same-answer entries k place e entry answer is place_is stands gave =
    let there : Some e ≡ Some entry = sym is ∙ ap (slice_get entries) (sym place_is) ∙ stands in
    let same : e ≡ entry = cc in
    ap (λ (x : Entry). x.outcome.answer) same ∙ gave

pub unanswered-more : (entries : List Entry) (from k n : ℕ) (op : Operation) (e : Entry) → slice_get entries k ≡ Some e → n ≡ k + 1
    → IsUnansweredUpTo entries from k op → GivesReceipt e op None → IsUnansweredUpTo entries from n op
unanswered-more entries from k n op e is n_is before none = λ place entry answer low below stands gave to. elim (cases_eq place k) [
  | inl here ↦ none answer (same-answer entries k place e entry answer is here stands gave) to
  | inr other ↦ before place entry answer low (omega (arith, below, n_is, other)) stands gave to
]

pub unanswered-all : (entries : List Entry) (from k : ℕ) (op : Operation) → length entries ≤ k → IsUnansweredUpTo entries from k op
    → IsUnanswered entries from op
unanswered-all entries from k op past before = λ place entry answer low stands gave to.
    let inside = stands-inside entries place entry stands in
    before place entry answer low (omega (arith, inside, past)) stands gave to

pub unanswered-none : (entries : List Entry) (from : ℕ) (op : Operation) → IsUnansweredUpTo entries from from op
unanswered-none entries from op = λ place entry answer low below stands gave to. omega (arith, low, below)

pub receipt-at : (entries : List Entry) (k : ℕ) (op : Operation) (e : Entry) (receipt : Receipt) → slice_get entries k ≡ Some e
    → IsGiven e receipt op → IsReceiptOf entries op receipt
receipt-at entries k op e receipt is given = record {
  place = k;
  entry = e;
  stands = is;
  number_is = given.number_is;
  answer_is = given.answer_is;
  same_op = given.same_op;
}
