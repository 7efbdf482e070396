use Rattle.std.proofs.Common.{◌≡◌, Result, Err, IfOk, sym, subst, ◌∙◌}
use Rattle.faust_types.specs.declared.out_of_memory.OutOfMemory.{OutOfMemory}
use Rattle.faust_top.specs.declared.accepting.Accepted.{Accepted}
use Rattle.faust_top.specs.declared.output.Output.{Output}
use Rattle.faust_top.specs.declared.record_input.RecordError.{RecordError}
use Rattle.faust_top.specs.Output.{IsPrintable, output_of_judged, output_of_refusal}
use Rattle.faust_top.specs.RecordInput.{ReadsRun}
use Rattle.faust_top.specs.Texts.{verdict_for}
use Rattle.faust_top.proofs.InputAnswers.{line_told, run_told}
use Rattle.faust_top.proofs.Printable.{record_printable}
use Rattle.faust_top.proofs.input.answer_to_record.Goals.{in-Ok, in-Err-Refused}
use Rattle.faust_top.proofs.input.answer_to_record.Goals as goal

pub accepted_output-output-requires : goal.accepted_output-output-requires
accepted_output-output-requires g c =
    let has = c.in-Ok.ensures in
    subst (λ (taken : Accepted). IsPrintable taken) (sym c.taken.ensures.parts)
    (record_printable has.input c.in-Ok.run' has.read_is c.taken.ensures.is_run)

pub returns-in-Ok-output : goal.returns-in-Ok-output
returns-in-Ok-output g c =
    let command = c.args.command in
    let output = c.in-Ok-output.output in
    elim c.match-read_run.branch [
      | in-Ok w ↦
          run_told command _ _ _ _ w.in-Ok.run' w.taken.result output c.requires w.taken.ensures.is_run w.taken.ensures.parts
          w.in-Ok.ensures
          (subst (λ (told : Result Output OutOfMemory). IfOk told
          (λ (o : Output). o ≡ output_of_judged command w.taken.result (verdict_for command w.taken.result.run)))
          (sym w.output-is ∙ c.in-Ok-output.is) w.accepted_output-output.ensures)
      | in-Err-Refused w ↦
          let line = w.in-Err-Refused.line in
          let cause = w.in-Err-Refused.cause in
          line_told command _ _ _ _ line cause output c.requires
          (subst (λ (e : RecordError). ReadsRun 400000000 (g.S.Source.left c.args.source.now) (g.S.Source.left c.read_run.new.source)
          (g.S.Source.faults c.args.source.now) (g.S.Source.faults c.read_run.new.source) (Err e)) w.in-Err-Refused.field-0-is
          w.in-Err-Refused.ensures)
          (subst (λ (told : Result Output OutOfMemory). IfOk told
          (λ (o : Output). o ≡ output_of_refusal (record { line = line; cause = cause })))
          (sym w.output-is ∙ c.in-Ok-output.is) (rw w.in-Err-Refused.field-0-is at w.refused_output-output.ensures))
    ]
