use Rattle.std.proofs.Common.{◌∷◌, [], ◌++◌, List, ap, ◌∙◌}
use Rattle.std.specs.Prelude.{ℕ, codes}
use Rattle.faust_text.specs.Lines.{ended_text}
use Rattle.faust_report.specs.Text.{body_lines, departure_line, order_lines, report_text}
use Rattle.faust_report.proofs.Pieced.{report_put}
use Rattle.faust_report.proofs.report.text.Goals as goal

pub returns : goal.returns
unfolding report_text
returns c =
    let found = c.args.findings.now in
    let title = codes "faust report 1" in
    let departure = departure_line found.departure in
    let order = order_lines found.departure found.order in
    let one = c.in_ok-append.ensures.ok ∙ ap (λ (text : List ℕ). text ++ (title ++ 10 ∷ [])) (c.reserve.ensures ∙ c.new-out.ensures) in
    let two = c.in_ok-put_body.ensures ∙ ap (λ (text : List ℕ). text ++ ended_text (body_lines found)) one in
    let three = c.in_ok-put_departure.ensures ∙ ap (λ (text : List ℕ). text ++ (departure ++ 10 ∷ [])) two in
    let four = c.in_ok-put_order.ensures ∙ ap (λ (text : List ℕ). text ++ ended_text order) three in
    (c.in_ok-append-2.ensures.ok ∙ ap (λ (text : List ℕ). text ++ codes "end\n") four)
    ∙ report_put title (body_lines found) departure order (codes "end")
