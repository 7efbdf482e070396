-- Reading a script line by line: from a stage and a line to the next stage, or the cause of the refusal. `Scripts` and
-- `Refusals` say the same in the words of the grammar, and promises rest on those.
use Rattle.std.specs.Prelude.{◌≡◌, ℕ, ◌+◌, nat_le, cond, List, [], ◌∷◌, ◌++◌, length, codes, Result, Ok, Err}
use Rattle.std.specs.Str.{bytes_eq}
use Rattle.faust_text.specs.declared.cause.Cause.{Cause}
use Rattle.faust_text.specs.declared.cause.Cause.TheVariants as causes
use Rattle.faust_text.specs.declared.error.LineError.{LineError}
use Rattle.faust_text.specs.declared.error.LineError.TheVariants as line_errors
use Rattle.faust_types.specs.declared.config.Config.{Config}
use Rattle.faust_text.specs.declared.head.Head.TheVariants as heads
use Rattle.faust_text.specs.declared.head.HeadForm.{HeadForm}
use Rattle.faust_text.specs.declared.head.Title.TheVariants as titles
use Rattle.faust_text.specs.declared.head.HeadStep.{HeadStep}
use Rattle.faust_text.specs.declared.head.HeadStep.TheVariants as steps
use Rattle.faust_text.specs.Fields.{◌>>=◌}
use Rattle.faust_text.specs.Heads.{head_at}
use Rattle.faust_text.specs.Lines.{TextLine, lines_of, whole_line}
use Rattle.faust_text.specs.Tokens.{tokens_of}
use Rattle.faust_script.specs.declared.error.ScriptError.{ScriptError}
use Rattle.faust_script.specs.declared.error.ScriptError.TheVariants.{BadLine, OutOfMemory}
use Rattle.faust_script.specs.declared.event.Event.{Event}
use Rattle.faust_script.specs.declared.script.Script.{Script}
use Rattle.faust_script.specs.declared.stage.Stage.{Stage}
use Rattle.faust_script.specs.declared.stage.Stage.TheVariants as stages
use Rattle.faust_script.specs.Forms.{event_at}

-- The heads of scripts: `faust 1`, or `faust 2` with a line of the wire, and at most 32 clients.
abbrev pub script_form : HeadForm
script_form = record { title = titles.Script; formats = 2; clients = 32 }

-- Nothing was read: the first line of the head is due.
abbrev pub start : Stage
start = stages.Head heads.Title

abbrev pub empty_script : ℕ → Config → Script
empty_script format config = record { format = format; config = config; events = [] }

-- After a line of the head; the line after the last of them is the first of the events.
abbrev pub after_head : HeadStep → Stage
after_head (steps.Next head) = stages.Head head
after_head (steps.Whole format config) = stages.Events (empty_script format config)

abbrev pub with_event : Script → Event → Script
with_event script event = record script { events = script.events ++ event ∷ [] }

-- The next stage after the text of a line. Behind the head the line `end` ends the script, and any other is an
-- event, of which there are at most 20,000.
unfoldable pub text_at : Stage → List ℕ → Result Stage Cause
text_at (stages.Head head) text = head_at script_form head (tokens_of text) >>= λ step. Ok (after_head step)
text_at (stages.Events script) text = cond (bytes_eq text (codes "end")) (Ok (stages.Ended script))
    (cond (nat_le 20000 (length script.events)) (Err causes.Events)
    (event_at script.config.clients (tokens_of text) >>= λ event. Ok (stages.Events (with_event script event))))
text_at (stages.Ended script) text = Err causes.AfterEnd

-- The next stage after a line: first of all it must not be too long or cut off.
unfoldable pub stage_at : Stage → TextLine → Result Stage Cause
stage_at stage line = whole_line line >>= λ text. text_at stage text

-- A line that is refused, counted from 1, and why.
pub record Refusal : Type 0 where
  pub line : ℕ
  pub cause : Cause

-- What lines make, the first of them numbered so: the script, or the first refused line. Lines that end before the
-- script does are cut off at the line that would come next.
abbrev pub finished : Stage → ℕ → Result Script Refusal
finished (stages.Head head) number = Err (record { line = number; cause = causes.CutOff })
finished (stages.Events script) number = Err (record { line = number; cause = causes.CutOff })
finished (stages.Ended script) number = Ok script

abbrev pub and_then_lines : ℕ → (Stage → Result Script Refusal) → Result Stage Cause → Result Script Refusal
and_then_lines number rest (Ok stage) = rest stage
and_then_lines number rest (Err cause) = Err (record { line = number; cause = cause })

unfoldable pub lines_from : Stage → ℕ → List TextLine → Result Script Refusal
lines_from stage number [] = finished stage number
lines_from stage number (line ∷ lines) = and_then_lines number (λ next. lines_from next (number + 1) lines) (stage_at stage line)

-- The script of an input, or its first refused line with the cause.
unfoldable pub parsed : List ℕ → Result Script Refusal
parsed input = lines_from start 1 (lines_of input)

abbrev pub refused_at : ℕ → LineError → ScriptError
refused_at number (line_errors.Refused cause) = BadLine number cause
refused_at number line_errors.OutOfMemory = OutOfMemory

-- What parsing answers; want of memory may come in its place.
abbrev pub Parses : Result Script ScriptError → Result Script Refusal → Type 0
Parses (Ok script) due = due ≡ Ok script
Parses (Err (BadLine line cause)) due = due ≡ Err (record { line = line; cause = cause })
Parses (Err OutOfMemory) due = Unit {0}
