-- The text of an input and its status, as functions, and what the code's steps answer. No promise rests on these:
-- `specs/Answer.antt` says the same as facts.
use Rattle.std.specs.Prelude.{◌≡◌, ℕ, ◌<◌, ◌≤◌, Bool, false, List, [], length, nat_lt, Option, Some, None, IfSome, Result, Ok, Err, if◌then◌else◌, ◌⊎◌}
use Rattle.std.specs.Io.KnownBytes.{Appends}
use Rattle.faust_types.specs.declared.status.Status.{Status}
use Rattle.faust_types.specs.declared.status.Status.TheVariants.{Done, Refused, Premise, WriteFault, OutOfMemory}
use Rattle.faust_io.specs.declared.failed.ReadError.{ReadError}
use Rattle.faust_io.specs.declared.failed.ReadError.TheVariants as reads
use Rattle.faust_io.specs.Faults.{CountsFault}
use Rattle.faust_io.specs.Reading.{IsWhole}
use Rattle.faust_io.specs.Writing.{AppendsPrefix}
use Rattle.faust_text.specs.Causes.{cause_text}
use Rattle.faust_store.specs.Texts.{IsTextVersion}
use Rattle.faust_script.specs.Parsing.{Refusal}
use Rattle.faust_record.specs.Runs.{IsRun}
use Rattle.faust_premises.specs.Premises.{Verdict, clean, forged, collision}
use Rattle.faust_top.specs.declared.accepting.AcceptError.{AcceptError}
use Rattle.faust_top.specs.declared.accepting.AcceptError.TheVariants as errors
use Rattle.faust_top.specs.declared.accepting.Accepted.{Accepted}
use Rattle.faust_top.specs.declared.output.Output.{Output}
use Rattle.faust_top.specs.declared.words.Command.{Command}
use Rattle.faust_top.specs.Accepting.{accepted}
use Rattle.faust_top.specs.declared.words.Command.TheVariants as commands
use Rattle.faust_top.specs.Answer.{IsRead}
use Rattle.faust_top.specs.Commands.{limit_of}
use Rattle.faust_verdict.specs.Texts.{collision_text, forged_text}
use Rattle.faust_top.specs.Texts.{refusal_text, text_of, too_long_text, verdict_for}

-- The output of an input.
abbrev pub output_of_refusal : Refusal → Output
output_of_refusal refusal = record { status = Refused; text = refusal_text refusal.line (cause_text refusal.cause) }

abbrev pub output_of_judged : Command → Accepted → Verdict → Output
output_of_judged command taken clean = record { status = Done; text = text_of command taken }
output_of_judged command taken (forged entry body) = record { status = Premise; text = forged_text entry body }
output_of_judged command taken (collision first second) = record { status = Premise; text = collision_text first second }

abbrev pub output_of_accepted : Command → Result Accepted Refusal → Output
output_of_accepted command (Ok taken) = output_of_judged command taken (verdict_for command taken.run)
output_of_accepted command (Err refusal) = output_of_refusal refusal

abbrev pub too_long_output : Output
too_long_output = record { status = Refused; text = too_long_text }

abbrev pub is_over : Option ℕ → List ℕ → Bool
is_over None input = false
is_over (Some most) input = nat_lt most (length input)

abbrev pub output_of : Command → List ℕ → Output
output_of command input = if is_over (limit_of command) input then too_long_output else output_of_accepted command (accepted command input)

-- Accepting answers what is due; want of memory may come in its place.
abbrev pub Accepts : Result Accepted AcceptError → Result Accepted Refusal → Type 0
Accepts (Ok taken) due = due ≡ Ok taken
Accepts (Err (errors.Refused line cause)) due = due ≡ Err (record { line = line; cause = cause })
Accepts (Err errors.OutOfMemory) due = Unit {0}

-- What was accepted is a run, and its record can be printed in the format.
pub record IsPrintable (taken : Accepted) : Type 0 where
  pub is_run : IsRun taken.run.config taken.run.entries
  pub few_entries : length taken.run.entries ≤ 20000
  pub format_known : IsTextVersion taken.format taken.run.config.wire

-- What a command accepts of an input is a run. It serves the promise on runs.
unfoldable pub AreRuns : Command → List ℕ → Type 0
AreRuns command input = (taken : Accepted) → accepted command input ≡ Ok taken → IsRun taken.run.config taken.run.entries

-- How reading an input ends.
pub record IsInputRead (most : ℕ) (before after : Option (List ℕ)) (failed_before failed_after : ℕ) (input : List ℕ) : Type 0 where
  pub whole : IsWhole before after input
  pub within : length input ≤ most
  pub reads_kept : failed_after ≡ failed_before

abbrev pub ReadsInput : Option ℕ → Option (List ℕ) → Option (List ℕ) → ℕ → ℕ → Result (List ℕ) ReadError → Type 0
ReadsInput None before after failed_before failed_after (Ok input) = (input ≡ []) × (after ≡ before) × (failed_after ≡ failed_before)
ReadsInput None before after failed_before failed_after (Err e) = ⊥
ReadsInput (Some most) before after failed_before failed_after (Ok input) = IsInputRead most before after failed_before failed_after input
ReadsInput (Some most) before after failed_before failed_after (Err reads.TooLong) =
    IfSome before (λ content. most < length content) × (failed_after ≡ failed_before)
ReadsInput (Some most) before after failed_before failed_after (Err reads.Failed) = CountsFault failed_before failed_after
ReadsInput (Some most) before after failed_before failed_after (Err reads.OutOfMemory) = failed_after ≡ failed_before

-- The commands that read a record.
abbrev pub ReadsRecord : Command → Type 0
ReadsRecord commands.Script = ⊥
ReadsRecord commands.Record = ⊥
ReadsRecord commands.Audit = Unit {0}
ReadsRecord commands.Json = ⊥
ReadsRecord commands.Migrate = Unit {0}
ReadsRecord (commands.Sample seed clients ops) = ⊥

-- What a command answers to the input of its source.
pub record IsOutput (command : Command) (before after : Option (List ℕ)) (failed_before failed_after : ℕ) (output : Output) : Type 0 where
  pub input : List ℕ
  pub input_read : ReadsInput (limit_of command) before after failed_before failed_after (Ok input)
  pub are_runs : AreRuns command input
  pub output_is : output ≡ output_of_accepted command (accepted command input)

abbrev pub AnswersInput : Command → Option (List ℕ) → Option (List ℕ) → ℕ → ℕ → Result Output ReadError → Type 0
AnswersInput command before after failed_before failed_after (Ok output) = IsOutput command before after failed_before failed_after output
AnswersInput command before after failed_before failed_after (Err reads.TooLong) =
    ReadsInput (limit_of command) before after failed_before failed_after (Err reads.TooLong)
AnswersInput command before after failed_before failed_after (Err reads.Failed) =
    ReadsInput (limit_of command) before after failed_before failed_after (Err reads.Failed)
AnswersInput command before after failed_before failed_after (Err reads.OutOfMemory) =
    IsRead (limit_of command) OutOfMemory before after × (failed_after ≡ failed_before)

-- How writing the text of a status ends.
abbrev pub EndsWriting : Status → List ℕ → Option (List ℕ) → Option (List ℕ) → ℕ → ℕ → Status → Type 0
EndsWriting status text before after failed_before failed_after result =
    ((result ≡ status) × Appends before after text × (failed_after ≡ failed_before))
    ⊎ ((result ≡ WriteFault) × AppendsPrefix before after text × CountsFault failed_before failed_after)
