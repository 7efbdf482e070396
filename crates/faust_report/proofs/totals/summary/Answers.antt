use Rattle.std.proofs.Common.{◌∷◌, [], ◌++◌, List, ap, ◌∙◌}
use Rattle.std.specs.Prelude.{ℕ, codes}
use Rattle.faust_record.specs.declared.findings.Fact.{Fact}
use Rattle.faust_report.specs.Text.{departure_line, entries_line}
use Rattle.faust_report.specs.Summary.{completed, cuts_line, failures_line, notices, operations_line, sample_line, summary_text, whole_cuts}
use Rattle.faust_report.proofs.Summed.{summary_put}
use Rattle.faust_report.proofs.totals.summary.Goals as goal

pub returns : goal.returns
unfolding summary_text
returns c =
    let found = c.args.findings.now in
    let facts = found.facts in
    let n = found.clients in
    let same = c.as_slice-facts.ensures in
    let sample = sample_line c.args.seed n in
    let entries = entries_line found.entries in
    let operations = operations_line found.begun (completed facts) in
    let departure = departure_line found.departure in
    let failures = failures_line (notices facts) in
    let cuts = cuts_line (whole_cuts facts n) n in
    let one = c.in_ok-put_sample.ensures ∙ ap (λ (text : List ℕ). text ++ (sample ++ 10 ∷ [])) c.new-out.ensures in
    let two = c.in_ok-put_entries_line.ensures ∙ ap (λ (text : List ℕ). text ++ (entries ++ 10 ∷ [])) one in
    let three = (c.in_ok-put_operations.ensures
    ∙ ap (λ (fs : List Fact). c.put_entries_line.new.out ++ (operations_line found.begun (completed fs) ++ 10 ∷ [])) same)
    ∙ ap (λ (text : List ℕ). text ++ (operations ++ 10 ∷ [])) two in
    let four = c.in_ok-put_departure.ensures ∙ ap (λ (text : List ℕ). text ++ (departure ++ 10 ∷ [])) three in
    let five = (c.in_ok-put_failures.ensures
    ∙ ap (λ (fs : List Fact). c.put_departure.new.out ++ (failures_line (notices fs) ++ 10 ∷ [])) same)
    ∙ ap (λ (text : List ℕ). text ++ (failures ++ 10 ∷ [])) four in
    let six = (c.in_ok-put_cuts.ensures
    ∙ ap (λ (fs : List Fact). c.put_failures.new.out ++ (cuts_line (whole_cuts fs n) n ++ 10 ∷ [])) same)
    ∙ ap (λ (text : List ℕ). text ++ (cuts ++ 10 ∷ [])) five in
    (c.in_ok-append.ensures.ok ∙ ap (λ (text : List ℕ). text ++ codes "end\n") six)
    ∙ summary_put sample entries operations departure failures cuts (codes "end")
