-- Reading a record line by line: from a stage and a line to the next stage, or the cause of the refusal. `Records` says
-- in other words which bytes are a run's record.
use Rattle.std.specs.Prelude.{◌≡◌, ℕ, ◌+◌, nat_le, Bool, false, cond, List, [], ◌∷◌, length, Option, Some, None, Result, Ok, Err}
use Rattle.std.specs.Fmt.{decimal}
use Rattle.std.specs.Str.{bytes_eq}
use Rattle.faust_text.specs.declared.cause.Cause.{Cause}
use Rattle.faust_text.specs.declared.cause.Cause.TheVariants as causes
use Rattle.faust_text.specs.declared.error.LineError.{LineError}
use Rattle.faust_text.specs.declared.error.LineError.TheVariants as line_errors
use Rattle.faust_text.specs.declared.head.Head.TheVariants as heads
use Rattle.faust_text.specs.declared.head.HeadForm.{HeadForm}
use Rattle.faust_text.specs.declared.head.Title.TheVariants as titles
use Rattle.faust_text.specs.declared.head.HeadStep.{HeadStep}
use Rattle.faust_text.specs.declared.head.HeadStep.TheVariants as steps
use Rattle.faust_text.specs.Fields.{◌>>=◌}
use Rattle.faust_text.specs.Heads.{head_at}
use Rattle.faust_text.specs.Lines.{TextLine, lines_of, whole_line}
use Rattle.faust_text.specs.Tokens.{tokens_of}
use Rattle.faust_record.specs.Refusals.{push_of}
use Rattle.faust_record.specs.Runs.{Run, first_run, next_message}
use Rattle.faust_record.specs.declared.errors.PushError.{PushError}
use Rattle.faust_record.specs.declared.errors.PushError.TheVariants as pushes
use Rattle.faust_record.specs.declared.run_record.PushInput.TheVariants as inputs
use Rattle.faust_store.specs.declared.entry_line.EntryLine.{EntryLine}
use Rattle.faust_store.specs.declared.entry_line.EntryLine.TheVariants as said
use Rattle.faust_store.specs.declared.error.StoreError.{StoreError}
use Rattle.faust_store.specs.declared.error.StoreError.TheVariants.{BadRecord, OutOfMemory}
use Rattle.faust_store.specs.declared.stage.Stage.{Stage}
use Rattle.faust_store.specs.declared.stage.Stage.TheVariants as stages
use Rattle.faust_store.specs.Forms.{end_number, entry_at}

-- The heads of records: `faust-record 1`, or `faust-record 2` with a line of the wire, and at most 32 clients.
abbrev pub record_form : HeadForm
record_form = record { title = titles.Record; formats = 2; clients = 32 }

-- Nothing was read: the first line of the head is due.
abbrev pub start : Stage
start = stages.Head heads.Title

-- After a line of the head; the line after the last of them is the first of the entries.
abbrev pub after_head : HeadStep → Stage
after_head (steps.Next head) = stages.Head head
after_head (steps.Whole version config) = stages.Entries version (first_run config)

-- Whether a token is a number, by its digits.
abbrev pub is_number_of : ℕ → List ℕ → Bool
is_number_of count token = bytes_eq token (decimal count)

-- Why an entry can't be played. The grammar refuses values that are too long and registers that aren't there, each by
-- its own cause, so the first two don't come. Want of memory is due nowhere.
abbrev pub cause_of_push : PushError → Cause
cause_of_push pushes.TooLong = causes.Value
cause_of_push pushes.NoRegister = causes.Number
cause_of_push (pushes.Failed notice) = causes.Failed
cause_of_push pushes.Busy = causes.Busy
cause_of_push pushes.Nothing = causes.Nothing
cause_of_push pushes.OutOfMemory = causes.Nothing

abbrev pub pushed : Result Run PushError → Result Run Cause
pushed (Ok run) = Ok run
pushed (Err e) = Err (cause_of_push e)

-- An arrival whose message stands in its line is refused where that isn't the next message of the client.
abbrev pub is_due : List ℕ → Option (List ℕ) → Bool
is_due message None = false
is_due message (Some due) = bytes_eq due message

abbrev pub framed : List ℕ → Option (List ℕ) → Run → Result Run Cause
framed message due run = cond (is_due message due) (Ok run) (Err causes.Frame)

abbrev pub arriving_as : Run → ℕ → List ℕ → Result Run Cause
arriving_as run i message = pushed (push_of run i inputs.Arrive) >>= λ next. framed message (next_message i run.entries) next

-- The run with the entry that a line says: it is played, and then its message is looked at.
unfoldable pub taken : Run → EntryLine → Result Run Cause
taken run (said.Comes i input) = pushed (push_of run i input)
taken run (said.Arrives i message) = arriving_as run i message

-- A line with the next number is taken.
abbrev pub numbered : ℕ → Run → List ℕ → EntryLine → Result Stage Cause
numbered version run token line = cond (is_number_of (length run.entries) token)
    (taken run line >>= λ next. Ok (stages.Entries version next)) (Err causes.Order)

-- A line behind the head: an end line ends the record where its number is that of the entries; any other is an entry,
-- of which there are at most 20,000.
abbrev pub entry_taken : ℕ → Run → List (List ℕ) → Result Stage Cause
entry_taken version run tokens = cond (nat_le 20000 (length run.entries)) (Err causes.Events)
    (entry_at version run.config.clients tokens >>= λ given. numbered version run given.0 given.1)

abbrev pub ended_or : Option (List ℕ) → Run → Result Stage Cause → Result Stage Cause
ended_or None run otherwise = otherwise
ended_or (Some token) run otherwise = cond (is_number_of (length run.entries) token) (Ok (stages.Ended run)) (Err causes.Order)

-- The next stage after the text of a line.
unfoldable pub text_at : Stage → List ℕ → Result Stage Cause
text_at (stages.Head head) text = head_at record_form head (tokens_of text) >>= λ step. Ok (after_head step)
text_at (stages.Entries version run) text = let tokens = tokens_of text in
    ended_or (end_number tokens) run (entry_taken version run tokens)
text_at (stages.Ended run) text = Err causes.AfterEnd

-- The next stage after a line: first of all it must not be too long or cut off.
unfoldable pub stage_at : Stage → TextLine → Result Stage Cause
stage_at stage line = whole_line line >>= λ text. text_at stage text

-- A line that is refused, counted from 1, and why.
pub record Refusal : Type 0 where
  pub line : ℕ
  pub cause : Cause

-- What lines make, the first of them numbered so: the run, or the first refused line. Lines that end before the record
-- does are cut off at the line that would come next.
abbrev pub finished : Stage → ℕ → Result Run Refusal
finished (stages.Head head) number = Err (record { line = number; cause = causes.CutOff })
finished (stages.Entries version run) number = Err (record { line = number; cause = causes.CutOff })
finished (stages.Ended run) number = Ok run

abbrev pub and_then_lines : ℕ → (Stage → Result Run Refusal) → Result Stage Cause → Result Run Refusal
and_then_lines number rest (Ok stage) = rest stage
and_then_lines number rest (Err cause) = Err (record { line = number; cause = cause })

unfoldable pub lines_from : Stage → ℕ → List TextLine → Result Run Refusal
lines_from stage number [] = finished stage number
lines_from stage number (line ∷ lines) = and_then_lines number (λ next. lines_from next (number + 1) lines) (stage_at stage line)

-- The run of a record, or its first refused line with the cause.
unfoldable pub read : List ℕ → Result Run Refusal
read input = lines_from start 1 (lines_of input)

abbrev pub refused_at : ℕ → LineError → StoreError
refused_at number (line_errors.Refused cause) = BadRecord number cause
refused_at number line_errors.OutOfMemory = OutOfMemory

-- What reading answers; want of memory may come in its place.
abbrev pub Reads : Result Run StoreError → Result Run Refusal → Type 0
Reads (Ok run) due = due ≡ Ok run
Reads (Err (BadRecord line cause)) due = due ≡ Err (record { line = line; cause = cause })
Reads (Err OutOfMemory) due = Unit {0}
