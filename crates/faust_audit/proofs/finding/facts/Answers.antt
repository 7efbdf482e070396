use Rattle.std.proofs.Common.{◌<◌, ◌++◌, ◌∷◌, [], List, take, length, sym, ap, ◌∙◌, arith}
use Rattle.faust_record.specs.declared.entry.Entry.{Entry}
use Rattle.faust_record.specs.declared.findings.Fact.{Fact}
use Rattle.faust_record.proofs.Fed.{IsAt}
use Rattle.faust_audit.specs.Findings.{facts_of}
use Rattle.faust_audit.proofs.Following.{at-read}
use Rattle.faust_audit.proofs.Gathering.{facts-act, facts-arrival}
use Rattle.faust_audit.proofs.finding.facts.Goals as goal
use Rattle.faust_audit.proofs.finding.facts.Goals.{then-is_act+in_ok-fact_of+in_ok-push, else-is_act}

pub loop-q-preserved : goal.loop-q-preserved
loop-q-preserved c =
    let rec = c.args.rec.now in
    let q = c.loop-q.q in
    let e : Entry = c.entry_at-entry.result.now in
    let front : List Entry = take q rec.entries in
    let inside : q < length rec.entries = omega (arith, c.loop-q-test.true, c.len-q-end.ensures) in
    let at : IsAt rec.entries q e = at-read rec.entries q e inside c.entry_at-entry.ensures in
    elim c.if-is_act.branch [
      | then-is_act+in_ok-fact_of+in_ok-push w ↦
          w.facts-is ∙ w.in_ok-push.ensures.ok
          ∙ ap (λ (l : List Fact). l ++ w.in_ok-fact_of.field-0 ∷ []) c.loop-q.invariant
          ∙ ap (λ (f : Fact). facts_of front ++ f ∷ []) w.in_ok-fact_of.ensures
          ∙ sym (facts-act front e (sym c.is_act.ensures ∙ w.if-is_act.true))
          ∙ ap facts_of (sym at.more)
      | else-is_act w ↦
          w.facts-is ∙ c.loop-q.invariant
          ∙ sym (facts-arrival front e (sym c.is_act.ensures ∙ w.if-is_act.false))
          ∙ ap facts_of (sym at.more)
    ]
