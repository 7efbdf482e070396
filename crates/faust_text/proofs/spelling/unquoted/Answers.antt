use Rattle.std.proofs.Common.{◌≡◌, true, false, eqb, leb, ◌&&◌, length, Some, None, sym, ap, ◌∙◌}
use Rattle.std.proofs.lemmas.Bool.{cond-true, cond-false, and_from, and_left, and_right, eq-eqb, ne_eqb, le-leb, lt-leb}
use Rattle.std.specs.List.{list_all}
use Rattle.faust_text.specs.Values.{is_plain}
use Rattle.faust_text.proofs.ValueLaws.{within-last}
use Rattle.faust_text.proofs.spelling.unquoted.Goals as goal
use Rattle.faust_text.proofs.spelling.unquoted.Goals.{then-mark-ne34-via-then-mark-ne34, then-mark-ne34-via-else-mark-ne34+then-value-limit, then-mark-ne34-via-else-mark-ne34+else-value-limit+then-not-is_all_plain}

pub returns-then-mark-ne34 : goal.returns-then-mark-ne34
returns-then-mark-ne34 c =
    let value = c.in-Some.value.now in
    let mark = c.in-Some.mark.now in
    let last = within-last c.args.limit c.args.body.now value mark c.in-Some.ensures.cases.0 in
    let refused : (eqb mark 34 && list_all is_plain value && leb (length value) c.args.limit) ≡ false =
    elim c.then-mark-ne34.branch [
      | then-mark-ne34-via-then-mark-ne34 w ↦ and_left _ _ (and_left _ _ (ne_eqb mark 34 w.if-mark-ne34.true))
      | then-mark-ne34-via-else-mark-ne34+then-value-limit w ↦ and_right _ _ (lt-leb _ _ w.if-value-limit.true)
      | then-mark-ne34-via-else-mark-ne34+else-value-limit+then-not-is_all_plain w ↦
          and_left _ _ (and_right _ _ (sym w.is_all_plain.ensures ∙ w.if-not-is_all_plain.true))
    ] in
    last ∙ cond-false _ (Some value) None refused

pub returns : goal.returns
returns c =
    let value = c.in-Some.value.now in
    let mark = c.in-Some.mark.now in
    let last = within-last c.args.limit c.args.body.now value mark c.in-Some.ensures.cases.0 in
    let taken : (eqb mark 34 && list_all is_plain value && leb (length value) c.args.limit) ≡ true =
    and_from _ _ (and_from _ _ (eq-eqb mark 34 c.if-mark-ne34.false) (sym c.is_all_plain.ensures ∙ c.if-not-is_all_plain.false))
    (le-leb _ _ c.if-value-limit.false) in
    last ∙ (cond-true _ (Some value) None taken ∙ ap Some (sym c.in_ok-from_slice.ensures))
