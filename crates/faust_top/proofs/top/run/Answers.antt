use Rattle.std.proofs.Common.{ℕ, List, map, Err, refl, sym, subst}
use Rattle.std.specs.Prelude.{string_bytes}
use Rattle.faust_types.specs.declared.status.Status.TheVariants.{Usage}
use Rattle.faust_io.specs.declared.failed.ReadError.{ReadError}
use Rattle.faust_top.specs.Output.{AnswersInput, EndsWriting}
use Rattle.faust_top.proofs.Answering.{fault_answered, no_memory_answered, text_answered, too_long_answered, usage_answered}
use Rattle.faust_top.proofs.CommandLaws.{command_form, no_form}
use Rattle.faust_top.proofs.top.run.Goals as goal

pub returns-in_default : goal.returns-in_default
returns-in_default g c =
    usage_answered _ _ c.written.result (no_form _ (sym c.in_default.ensures)) refl refl
    (subst (λ (text : List ℕ). EndsWriting Usage text (g.K.Sink.held c.args.sink.now) (g.K.Sink.held c.written.new.sink)
    (g.K.Sink.faults c.args.sink.now) (g.K.Sink.faults c.written.new.sink) c.written.result) c.usage_line.ensures c.written.ensures)

pub answer_to-requires : goal.answer_to-requires
answer_to-requires g c =
    (command_form (map (λ w. string_bytes w) c.args.words.now) c.in-Some.command (sym c.in-Some.ensures)).in_range

pub returns-in-Err-TooLong : goal.returns-in-Err-TooLong
returns-in-Err-TooLong g c =
    let command = c.in-Some.command in
    too_long_answered _ _ command c.written-in-Err-TooLong.result (command_form _ command (sym c.in-Some.ensures))
    (subst (λ (e : ReadError). AnswersInput command (g.S.Source.left c.args.source.now) (g.S.Source.left c.answer_to.new.source)
    (g.S.Source.faults c.args.source.now) (g.S.Source.faults c.answer_to.new.source) (Err e)) c.in-Err-TooLong.field-0-is
    c.in-Err-TooLong.ensures)
    c.written-in-Err-TooLong.ensures

pub returns-in-Err-Failed : goal.returns-in-Err-Failed
returns-in-Err-Failed g c =
    let command = c.in-Some.command in
    fault_answered _ _ command (command_form _ command (sym c.in-Some.ensures))
    (subst (λ (e : ReadError). AnswersInput command (g.S.Source.left c.args.source.now) (g.S.Source.left c.answer_to.new.source)
    (g.S.Source.faults c.args.source.now) (g.S.Source.faults c.answer_to.new.source) (Err e)) c.in-Err-Failed.field-0-is
    c.in-Err-Failed.ensures)
    (record { held = refl; writes_kept = refl })

pub returns-in-Err-OutOfMemory : goal.returns-in-Err-OutOfMemory
returns-in-Err-OutOfMemory g c =
    let command = c.in-Some.command in
    let read = subst (λ (e : ReadError). AnswersInput command (g.S.Source.left c.args.source.now) (g.S.Source.left c.answer_to.new.source)
    (g.S.Source.faults c.args.source.now) (g.S.Source.faults c.answer_to.new.source) (Err e)) c.in-Err-OutOfMemory.field-0-is
    c.in-Err-OutOfMemory.ensures in
    no_memory_answered _ _ command (command_form _ command (sym c.in-Some.ensures)) read.0 read.1
    (record { held = refl; writes_kept = refl })

pub returns-in-Ok : goal.returns-in-Ok
returns-in-Ok g c =
    let command = c.in-Some.command in
    let output = c.in-Ok.output in
    let answered = c.in-Ok.ensures in
    let result = c.written-in-Ok.result in
    let written = subst (λ (text : List ℕ). EndsWriting output.status text (g.K.Sink.held c.args.sink.now)
    (g.K.Sink.held c.written-in-Ok.new.sink)
    (g.K.Sink.faults c.args.sink.now) (g.K.Sink.faults c.written-in-Ok.new.sink) result)
    c.as_slice.ensures c.written-in-Ok.ensures in
    text_answered _ _ command answered.input output result
    (command_form _ command (sym c.in-Some.ensures)) answered.input_read answered.are_runs
    answered.output_is written
