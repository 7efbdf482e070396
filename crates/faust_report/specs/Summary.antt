-- The summary of a run that was made from a seed. The promise of `summary` rests on this file, and its lines on
-- `specs/Text.antt`.
use Rattle.std.specs.Prelude.{ℕ, ◌+◌, ◌==◌, ◌&&◌, zero, suc, Bool, cond, List, [], ◌∷◌, codes, Option, Some, None, count_by}
use Rattle.std.specs.Fmt.{decimal}
use Rattle.std.specs.List.{fold, list_all}
use Rattle.std.specs.Option.{is_some, option_or}
use Rattle.faust_text.specs.Lines.{ended_text}
use Rattle.faust_text.specs.Tokens.{joined}
use Rattle.faust_record.specs.declared.findings.Fact.{Fact}
use Rattle.faust_record.specs.declared.findings.Findings.{Findings}
use Rattle.faust_report.specs.Text.{clients_line, departure_line, entries_line}

-- How many operations completed, how many of them client i's, and how many notices there are.
abbrev pub completed : List Fact → ℕ
completed facts = count_by (λ fact. is_some fact.done) facts

abbrev pub completed_by : ℕ → List Fact → ℕ
completed_by client facts = count_by (λ fact. (fact.client == client) && is_some fact.done) facts

abbrev pub notices : List Fact → ℕ
notices facts = count_by (λ fact. is_some fact.notice) facts

-- The cut that a client has in the end: none where it never changed, and then each of its entries is 0.
abbrev pub cut_in : ℕ → Fact → Option (List ℕ)
cut_in client fact = cond (fact.client == client) fact.cut None

abbrev pub last_cut : ℕ → List Fact → Option (List ℕ)
last_cut client facts = fold (λ held fact. option_or (cut_in client fact) held) None facts

-- A cut is whole where each of its entries is the number of its client's completed operations.
abbrev pub each_is : ℕ → Option (List ℕ) → Bool
each_is number None = number == 0
each_is number (Some cut) = list_all (λ entry. entry == number) cut

abbrev pub has_whole_cut : List Fact → ℕ → Bool
has_whole_cut facts client = each_is (completed_by client facts) (last_cut client facts)

-- How many of clients 1 to n have a whole cut.
abbrev pub whole_cuts : List Fact → ℕ → ℕ
whole_cuts facts zero = 0
whole_cuts facts (suc before) = whole_cuts facts before + cond (has_whole_cut facts (suc before)) 1 0

-- The lines of the summary, in their order.
abbrev pub seed_text : ℕ → List ℕ
seed_text seed = joined (codes "seed" ∷ decimal seed ∷ [])

abbrev pub sample_line : ℕ → ℕ → List ℕ
sample_line seed n = joined (codes "sample" ∷ seed_text seed ∷ clients_line n ∷ [])

abbrev pub operations_line : ℕ → ℕ → List ℕ
operations_line begun done = joined (codes "operations" ∷ decimal begun ∷ codes "completed" ∷ decimal done ∷ [])

abbrev pub failures_line : ℕ → List ℕ
failures_line count = joined (codes "failures" ∷ decimal count ∷ [])

abbrev pub cuts_line : ℕ → ℕ → List ℕ
cuts_line whole n = joined (codes "cuts" ∷ codes "whole" ∷ decimal whole ∷ codes "of" ∷ decimal n ∷ [])

abbrev pub summary_lines : ℕ → Findings → List (List ℕ)
summary_lines seed found =
    sample_line seed found.clients
    ∷ entries_line found.entries
    ∷ operations_line found.begun (completed found.facts)
    ∷ departure_line found.departure
    ∷ failures_line (notices found.facts)
    ∷ cuts_line (whole_cuts found.facts found.clients) found.clients
    ∷ codes "end" ∷ []

unfoldable pub summary_text : ℕ → Findings → List ℕ
summary_text seed found = ended_text (summary_lines seed found)
