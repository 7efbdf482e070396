-- Lists that are the views of clients have the properties of these.
use Rattle.std.proofs.Common.{◌≡◌, ℕ, ◌+◌, ◌-◌, ◌<◌, ◌≤◌, zero, suc, List, [], ◌∷◌, length, get_or, subst, sym, refl, ap, ◌∙◌, inl, inr, arith, length-append}
use Rattle.std.proofs.lemmas.Bool.{cases_lt}
use Rattle.std.proofs.lemmas.List.{get_or_at, get_or_append_left, ext_get_or}
use Rattle.faust_types.specs.Clients.{IsClient}
use Rattle.faust_types.specs.declared.operation.OpName.{OpName}
use Rattle.faust_names.specs.Histories.{History}
use Rattle.faust_names.specs.Views.{IsCausal, IsViewOf, IsWeakForkLinearizable, JoinAtMostOnce, KeepsWeakRealTime}
use Rattle.faust_record.specs.Runs.{IsRun, Run}
use Rattle.faust_premises.specs.Premises.{IsClean}
use Rattle.faust_runs.specs.ForkViews.{view_of}
use Rattle.faust_runs.specs.Histories.{history_read}
use Rattle.faust_runs.proofs.Claims.{run-views}
use Rattle.faust_views.specs.Forks.{AreViews, list_of, views_of, views_to}

linear-same : (n : ℕ) (h : History) (lists also : ℕ → List OpName) → ((i : ℕ) → IsClient n i → also i ≡ lists i)
    → IsWeakForkLinearizable n h lists → IsWeakForkLinearizable n h also
linear-same n h lists also same is = record {
  views = λ i client. subst (λ (l : List OpName). IsViewOf h i l) (sym (same i client)) (is.views i client);
  causal = λ i client. subst (λ (l : List OpName). IsCausal h l) (sym (same i client)) (is.causal i client);
  real_time = λ i client. subst (λ (l : List OpName). KeepsWeakRealTime h l) (sym (same i client)) (is.real_time i client);
  joins = λ i j client other.
      subst (λ (l : List OpName). JoinAtMostOnce l (also j)) (sym (same i client))
      (subst (λ (m : List OpName). JoinAtMostOnce (lists i) m) (sym (same j other)) (is.joins i j client other));
}

pub views-linear : (run : Run) (views : List (List OpName)) → IsRun run.config run.entries → AreViews run views
    → IsClean run.config run.entries
    → IsWeakForkLinearizable run.config.clients (history_read run.entries) (list_of views)
views-linear run views is are clean =
    linear-same run.config.clients (history_read run.entries) (view_of run.config run.entries) (list_of views) are.each
    (run-views run.config run.entries is clean)

-- The views as one list.
views_to-length : (run : Run) (k : ℕ) → length (views_to run k) ≡ k
views_to-length run zero = refl
views_to-length run (suc k) =
    let counted = views_to-length run k in
    let longer = length-append (views_to run k) (view_of run.config run.entries (suc k) ∷ []) in
    omega (arith, counted, longer)

views_to-at : (run : Run) (k i : ℕ) → 1 ≤ i → i ≤ k → get_or (views_to run k) (i - 1) [] ≡ view_of run.config run.entries i
views_to-at run zero i from to = absurd (omega (arith, from, to))
views_to-at run (suc k) i from to =
    let view : ℕ → List OpName = λ j. view_of run.config run.entries j in
    let counted = views_to-length run k in
    elim (cases_lt k i) [
      | inl last ↦
          (let ends : length (views_to run k) ≡ i - 1 = omega (arith, counted, last, to) in
          let same : suc k ≡ i = omega (arith, last, to) in
          get_or_at (views_to run k) (view (suc k)) [] [] (i - 1) ends ∙ ap view same)
      | inr within ↦
          (let inside : i - 1 < length (views_to run k) = omega (arith, counted, within, from) in
          get_or_append_left (views_to run k) (view (suc k) ∷ []) [] (i - 1) inside ∙ views_to-at run k i from within)
    ]

-- what the lists of all clients are, place by place, is one list
pub views_are : (run : Run) (views : List (List OpName)) → AreViews run views → views ≡ views_of run
views_are run views are =
    let n = run.config.clients in
    let counted : length views ≡ n = are.counted in
    let long = views_to-length run n in
    ext_get_or [] views (views_of run) (counted ∙ sym long)
    (λ i inside.
    let at : i + 1 - 1 ≡ i = omega arith in
    let below : i + 1 ≤ n = omega (arith, inside, counted) in
    let client : IsClient n (i + 1) = record { from_one = omega arith; to_n = below } in
    subst (λ (j : ℕ). get_or views j [] ≡ get_or (views_of run) j []) at
    (are.each (i + 1) client ∙ sym (views_to-at run n (i + 1) (omega arith) below)))
