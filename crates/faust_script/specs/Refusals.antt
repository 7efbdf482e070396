-- Which line of an input is refused, and why: the table of causes in its order.
use Rattle.std.specs.Prelude.{◌≡◌, ◌≢◌, ℕ, ◌+◌, ◌<◌, ◌≤◌, true, false, List, [], ◌∷◌, ◌++◌, length, take, drop, codes, Option, Some, None, Result, Ok, Err, ◌⊎◌}
use Rattle.faust_text.specs.declared.cause.Cause.{Cause}
use Rattle.faust_text.specs.declared.cause.Cause.TheVariants as causes
use Rattle.faust_text.specs.Fields.{◌>>=◌}
use Rattle.faust_text.specs.Heads.{due_form}
use Rattle.faust_text.specs.Lines.{TextLine, lines_of}
use Rattle.faust_text.specs.Spelled.{IsFault, IsFirstFault, SpellsField}
use Rattle.faust_text.specs.Tokens.{tokens_of}
use Rattle.faust_script.specs.declared.error.ScriptError.{ScriptError}
use Rattle.faust_script.specs.declared.error.ScriptError.TheVariants as errors
use Rattle.faust_script.specs.declared.script.Script.{Script}
use Rattle.faust_script.specs.declared.stage.Stage.{Stage}
use Rattle.faust_script.specs.declared.stage.Stage.TheVariants as stages
use Rattle.faust_script.specs.declared.word.EventWord.{EventWord}
use Rattle.faust_script.specs.declared.word.EventWord.TheVariants as words
use Rattle.faust_script.specs.declared.word.EditWord.{EditWord}
use Rattle.faust_script.specs.Forms.{client, edit_form, event_form}
use Rattle.faust_script.specs.Parsing.{Refusal, script_form, stage_at, start}
use Rattle.faust_script.specs.Scripts.{IsScriptText}
use Rattle.faust_script.specs.InRange.{IsScript}
use Rattle.faust_script.specs.Words.{event_word, edit_word}

-- Why the tokens behind an edit's word are refused: as its fields are.
abbrev pub IsEditFaultOf : ℕ → Option EditWord → List (List ℕ) → Cause → Type 0
IsEditFaultOf n None tokens cause = cause ≡ causes.Word
IsEditFaultOf n (Some word) tokens cause = IsFirstFault (edit_form n word) tokens cause

abbrev pub IsEditFault : ℕ → List (List ℕ) → Cause → Type 0
IsEditFault n [] cause = cause ≡ causes.Word
IsEditFault n (token ∷ tokens) cause = IsEditFaultOf n (edit_word token) tokens cause

-- The client stands left of the edit.
abbrev pub IsEditingFault : ℕ → List (List ℕ) → Cause → Type 0
IsEditingFault n [] cause = cause ≡ causes.Word
IsEditingFault n (token ∷ tokens) cause =
    IsFault (client n) token cause ⊎ ((i : ℕ) × SpellsField (client n) i token × IsEditFault n tokens cause)

-- Why the tokens behind an event's word are refused.
abbrev pub IsEventFaultOf : ℕ → Option EventWord → List (List ℕ) → Cause → Type 0
IsEventFaultOf n None tokens cause = cause ≡ causes.Word
IsEventFaultOf n (Some words.Edit) tokens cause = IsEditingFault n tokens cause
IsEventFaultOf n (Some words.Forge) tokens cause = IsEditingFault n tokens cause
IsEventFaultOf n (Some word) tokens cause = IsFirstFault (event_form n word) tokens cause

abbrev pub IsEventFault : ℕ → List (List ℕ) → Cause → Type 0
IsEventFault n [] cause = cause ≡ causes.Word
IsEventFault n (token ∷ tokens) cause = IsEventFaultOf n (event_word token) tokens cause

-- Why the text of a line is refused, by what was read before it.
abbrev pub IsTextFault : Stage → List ℕ → Cause → Type 0
IsTextFault (stages.Head head) text cause = IsFirstFault (due_form script_form head) (tokens_of text) cause
IsTextFault (stages.Events script) text cause =
    (text ≢ codes "end")
    × (((cause ≡ causes.Events) × (20000 ≤ length script.events))
    ⊎ ((length script.events < 20000) × IsEventFault script.config.clients (tokens_of text) cause))
IsTextFault (stages.Ended script) text cause = cause ≡ causes.AfterEnd

-- Why a line is refused: it is too long; or else cut off; or else its text is refused.
abbrev pub IsLineFault : Stage → TextLine → Cause → Type 0
IsLineFault stage line cause =
    ((cause ≡ causes.TooLong) × (40000 < length line.bytes))
    ⊎ ((length line.bytes ≤ 40000)
    × (((cause ≡ causes.CutOff) × (line.ended ≡ false)) ⊎ ((line.ended ≡ true) × IsTextFault stage line.bytes cause)))

-- The input ends before the script does, or the next line is refused.
abbrev pub IsNotEnded : Stage → Type 0
IsNotEnded (stages.Head head) = Unit {0}
IsNotEnded (stages.Events script) = Unit {0}
IsNotEnded (stages.Ended script) = ⊥

abbrev pub IsRefusedThere : Stage → List TextLine → Cause → Type 0
IsRefusedThere stage [] cause = (cause ≡ causes.CutOff) × IsNotEnded stage
IsRefusedThere stage (line ∷ lines) cause = IsLineFault stage line cause

-- What lines are read to.
unfoldable pub reached : Stage → List TextLine → Result Stage Cause
reached stage [] = Ok stage
reached stage (line ∷ lines) = stage_at stage line >>= λ next. reached next lines

-- The line that is refused: the lines before it are read, and it isn't.
pub record IsRefused (input : List ℕ) (refusal : Refusal) : Type 0 where
  pub before : ℕ
  pub line_is : refusal.line ≡ before + 1
  pub within : before ≤ length (lines_of input)
  pub stage : Stage
  pub read_before : reached start (take before (lines_of input)) ≡ Ok stage
  pub why : IsRefusedThere stage (drop before (lines_of input)) refusal.cause

-- Lines with which a script's text begins.
pub record CanGoOn (front : List TextLine) : Type 0 where
  pub script : Script
  pub input : List ℕ
  pub more : List TextLine
  pub is_text : IsScriptText script input
  pub lines_are : lines_of input ≡ front ++ more

-- What parsing answers, in these words: the script whose text the input is, with all its values in range, or the
-- refused line.
abbrev pub IsAnswer : List ℕ → Result Script ScriptError → Type 0
IsAnswer input (Ok script) = IsScriptText script input × IsScript script
IsAnswer input (Err (errors.BadLine line cause)) = IsRefused input (record { line = line; cause = cause })
IsAnswer input (Err errors.OutOfMemory) = Unit {0}
