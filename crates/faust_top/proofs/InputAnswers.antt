-- What a command answers to the input of its source.
use Rattle.std.proofs.Common.{◌≡◌, ℕ, List, Option, Some, Ok, Err, refl, sym, ap, ◌∙◌, subst}
use Rattle.faust_text.specs.declared.cause.Cause.{Cause}
use Rattle.faust_record.specs.Runs.{IsRun, Run}
use Rattle.faust_store.specs.Reading.{read}
use Rattle.faust_top.specs.declared.accepting.Accepted.{Accepted}
use Rattle.faust_top.specs.declared.output.Output.{Output}
use Rattle.faust_top.specs.declared.words.Command.{Command}
use Rattle.faust_top.specs.declared.words.Command.TheVariants as commands
use Rattle.faust_top.specs.Accepting.{accepted, accepted_record}
use Rattle.faust_top.specs.Commands.{limit_of}
use Rattle.faust_top.specs.Output.{IsInputRead, IsOutput, ReadsInput, ReadsRecord, output_of_accepted, output_of_judged, output_of_refusal}
use Rattle.faust_top.specs.RecordInput.{HasRead}
use Rattle.faust_top.specs.Texts.{verdict_for}
use Rattle.faust_top.proofs.ReadRuns.{are_runs, no_runs}

-- The commands that read a record.
limit_is : (command : Command) → ReadsRecord command → limit_of command ≡ Some 400000000
limit_is commands.Script reads = absurd reads
limit_is commands.Record reads = absurd reads
limit_is commands.Audit reads = refl
limit_is commands.Json reads = absurd reads
limit_is commands.Migrate reads = refl
limit_is (commands.Sample seed clients ops) reads = absurd reads

accepted_is : (command : Command) (input : List ℕ) → ReadsRecord command → accepted command input ≡ accepted_record (read input)
accepted_is commands.Script input reads = absurd reads
accepted_is commands.Record input reads = absurd reads
accepted_is commands.Audit input reads = refl
accepted_is commands.Json input reads = absurd reads
accepted_is commands.Migrate input reads = refl
accepted_is (commands.Sample seed clients ops) input reads = absurd reads

record_read : (command : Command) (before after : Option (List ℕ)) (failed_before failed_after : ℕ) (input : List ℕ) → ReadsRecord command
    → IsInputRead 400000000 before after failed_before failed_after input
    → ReadsInput (limit_of command) before after failed_before failed_after (Ok input)
record_read command before after failed_before failed_after input reads whole =
    subst (λ (limit : Option ℕ). ReadsInput limit before after failed_before failed_after (Ok input)) (sym (limit_is command reads)) whole

-- What is told of the run of a record, and the line that is refused.
pub run_told : (command : Command) (before after : Option (List ℕ)) (failed_before failed_after : ℕ) (run : Run) (taken : Accepted)
    (output : Output)
    → ReadsRecord command → IsRun run.config run.entries → taken ≡ record { run = run; format = 2 }
    → HasRead 400000000 before after failed_before failed_after (Ok run)
    → output ≡ output_of_judged command taken (verdict_for command taken.run)
    → IsOutput command before after failed_before failed_after output
run_told command before after failed_before failed_after run taken output is kept parts has told =
    let accepts : accepted command has.input ≡ Ok (record { run = run; format = 2 }) =
    accepted_is command has.input is ∙ ap accepted_record has.read_is in record {
      input = has.input;
      input_read = record_read command before after failed_before failed_after has.input is has.whole;
      are_runs = are_runs command has.input (record { run = run; format = 2 }) accepts kept;
      output_is =
          told ∙ (ap (λ (a : Accepted). output_of_judged command a (verdict_for command a.run)) parts
          ∙ ap (output_of_accepted command) (sym accepts));
    }

pub line_told : (command : Command) (before after : Option (List ℕ)) (failed_before failed_after line : ℕ) (cause : Cause) (output : Output)
    → ReadsRecord command → HasRead 400000000 before after failed_before failed_after (Err (record { line = line; cause = cause }))
    → output ≡ output_of_refusal (record { line = line; cause = cause })
    → IsOutput command before after failed_before failed_after output
line_told command before after failed_before failed_after line cause output is has told =
    let refuses : accepted command has.input ≡ Err (record { line = line; cause = cause }) =
    accepted_is command has.input is ∙ ap accepted_record has.read_is in record {
      input = has.input;
      input_read = record_read command before after failed_before failed_after has.input is has.whole;
      are_runs = no_runs command has.input (record { line = line; cause = cause }) refuses;
      output_is = told ∙ ap (output_of_accepted command) (sym refuses);
    }
