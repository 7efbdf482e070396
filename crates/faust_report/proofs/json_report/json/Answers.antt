use Rattle.std.proofs.Common.{◌≡◌, ℕ, false, List, [], ◌∷◌, ◌++◌, Vec, Global, string_bytes, ap, ◌∙◌}
use Rattle.serde_json.specs.View.{view}
use Rattle.serde_json.specs.Written.{compact_text, has_float}
use Rattle.faust_report.specs.Json.{json_text, report_data}
use Rattle.faust_report.proofs.JsonData.{report-none}
use Rattle.faust_report.proofs.json_report.json.Goals as goal

pub returns : goal.returns
unfolding json_text
returns c =
    let found = c.args.findings.now in
    let none : has_float (view c.in_ok-report.report) ≡ false = ap has_float c.in_ok-report.ensures ∙ report-none found in
    let line : string_bytes c.in_ok-line.line ≡ compact_text (report_data found) =
    c.in_ok-line.ensures.text none ∙ ap compact_text c.in_ok-report.ensures in
    let bytes = c.from_vec-text.ensures ∙ (ap (λ (v : Vec ℕ Global). v.items) c.into_bytes.ensures.value ∙ line) in
    c.in_ok-push.ensures.ok ∙ ap (λ (text : List ℕ). text ++ 10 ∷ []) bytes
