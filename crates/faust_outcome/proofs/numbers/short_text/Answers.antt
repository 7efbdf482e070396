use Rattle.std.proofs.Common.{◌≡◌, ◌*◌, [], ◌∷◌, ◌++◌, ℕ, List, ap, ◌∙◌}
use Rattle.std.specs.Prelude.{codes}
use Rattle.faust_record.specs.declared.findings.Fact.{Fact}
use Rattle.faust_report.specs.Summary.{failures_line, notices}
use Rattle.faust_report.specs.Text.{departure_line}
use Rattle.faust_outcome.specs.Outcomes.{live_line, receipts_in, short_text, user_operations_line}
use Rattle.faust_outcome.proofs.Pieced.{short_put}
use Rattle.faust_outcome.proofs.numbers.short_text.Goals as goal

pub returns : goal.returns
unfolding short_text
returns c =
    let found = c.args.findings.now in
    let n = c.args.command.now.clients in
    let ops = c.args.command.now.ops in
    let made = receipts_in c.args.receipts.now in
    let clients = live_line n in
    let operations = user_operations_line made (n * ops) in
    let departure = departure_line found.departure in
    let failures = failures_line (notices found.facts) in
    let made_is : c.receipts_in-made.result ≡ made = c.receipts_in-made.ensures ∙ ap receipts_in c.as_slice.ensures in
    let one = c.in_ok-put_clients.ensures ∙ ap (λ (text : List ℕ). text ++ (clients ++ 10 ∷ [])) c.new-out.ensures in
    let two = ((c.in_ok-put_operations.ensures
    ∙ ap (λ (k : ℕ). c.put_clients.new.out ++ (user_operations_line k (c.from.result * ops) ++ 10 ∷ [])) made_is)
    ∙ ap (λ (k : ℕ). c.put_clients.new.out ++ (user_operations_line made (k * ops) ++ 10 ∷ [])) c.from.ensures)
    ∙ ap (λ (text : List ℕ). text ++ (operations ++ 10 ∷ [])) one in
    let three = c.in_ok-put_departure.ensures ∙ ap (λ (text : List ℕ). text ++ (departure ++ 10 ∷ [])) two in
    let four = (c.in_ok-put_failures.ensures
    ∙ ap (λ (fs : List Fact). c.put_departure.new.out ++ (failures_line (notices fs) ++ 10 ∷ [])) c.as_slice-2.ensures)
    ∙ ap (λ (text : List ℕ). text ++ (failures ++ 10 ∷ [])) three in
    (c.in_ok-append.ensures.ok ∙ ap (λ (text : List ℕ). text ++ codes "end\n") four)
    ∙ short_put clients operations departure failures (codes "end")
