use Rattle.std.proofs.Common.{◌++◌, List, ap, ◌∙◌}
use Rattle.std.specs.Prelude.{ℕ}
use Rattle.faust_text.specs.Lines.{ended_text}
use Rattle.faust_report.specs.Text.{body_lines, body_text}
use Rattle.faust_report.proofs.report.body.Goals as goal

pub returns : goal.returns
unfolding body_text
returns c =
    let found = c.args.findings.now in
    c.in_ok-put_body.ensures ∙ ap (λ (text : List ℕ). text ++ ended_text (body_lines found)) c.new-out.ensures
