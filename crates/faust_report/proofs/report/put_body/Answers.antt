use Rattle.std.proofs.Common.{◌≡◌, ◌++◌, List, ap, sym, ◌∙◌, subst, append_assoc}
use Rattle.std.specs.Prelude.{ℕ, OnOk}
use Rattle.faust_types.specs.declared.operation.OpName.{OpName}
use Rattle.faust_text.specs.Lines.{ended_text}
use Rattle.faust_report.specs.Text.{body_lines, entry_lines, view_lines}
use Rattle.faust_report.proofs.Pieced.{ended_append}
use Rattle.faust_report.proofs.report.put_body.Goals as goal

pub returns : goal.returns
returns c =
    let found = c.args.findings.now in
    let before = c.args.out.now in
    let entries = ended_text (entry_lines found) in
    let views = ended_text (view_lines 1 found.views) in
    let seen : c.put_entries.new.out ++ ended_text (view_lines 1 c.as_slice.result.now) ≡ before ++ ended_text (body_lines found) =
    ap (λ (vs : List (List OpName)). c.put_entries.new.out ++ ended_text (view_lines 1 vs)) c.as_slice.ensures
    ∙ (ap (λ (text : List ℕ). text ++ views) c.in_ok-put_entries.ensures
    ∙ (append_assoc before entries views
    ∙ ap (λ (text : List ℕ). before ++ text) (sym (ended_append (entry_lines found) (view_lines 1 found.views))))) in
    subst (λ (text : List ℕ). OnOk c.put_views.result (c.put_views.new.out ≡ text)) seen c.put_views.ensures
