-- Which line of an input is refused, and why: the table of causes in its order.
use Rattle.std.specs.Prelude.{◌≡◌, ◌≢◌, ℕ, ◌+◌, ◌<◌, ◌≤◌, ◌==◌, true, false, cond, List, [], ◌∷◌, length, take, drop, Option, Some, None, Result, Ok, Err, ◌⊎◌}
use Rattle.std.specs.Fmt.{decimal}
use Rattle.faust_types.specs.declared.operation.Notice.{Notice}
use Rattle.faust_text.specs.declared.cause.Cause.{Cause}
use Rattle.faust_text.specs.declared.cause.Cause.TheVariants as causes
use Rattle.faust_text.specs.Fields.{Field, Given, any_number, kind, ◌>>=◌}
use Rattle.faust_text.specs.Heads.{due_form}
use Rattle.faust_text.specs.Lines.{TextLine, lines_of}
use Rattle.faust_text.specs.Spelled.{IsFault, IsFirstFault, SpellsField, SpellsFields}
use Rattle.faust_text.specs.Tokens.{tokens_of}
use Rattle.faust_agent.specs.State.{is_idle}
use Rattle.faust_agent.specs.declared.client.Client.{Client}
use Rattle.faust_record.specs.Entries.{replay}
use Rattle.faust_record.specs.Runs.{Run, entries_of, next_message}
use Rattle.faust_record.specs.declared.run_record.PushInput.{PushInput}
use Rattle.faust_record.specs.declared.run_record.PushInput.TheVariants as inputs
use Rattle.faust_store.specs.declared.entry_line.EntryLine.{EntryLine}
use Rattle.faust_store.specs.declared.entry_line.EntryLine.TheVariants as said
use Rattle.faust_store.specs.declared.error.StoreError.{StoreError}
use Rattle.faust_store.specs.declared.error.StoreError.TheVariants as errors
use Rattle.faust_store.specs.declared.stage.Stage.{Stage}
use Rattle.faust_store.specs.declared.stage.Stage.TheVariants as stages
use Rattle.faust_store.specs.declared.word.EntryWord.{EntryWord}
use Rattle.faust_store.specs.declared.word.EntryWord.TheVariants as words
use Rattle.faust_store.specs.Forms.{begin_form, bytes_form, client, client_form, tick_form}
use Rattle.faust_store.specs.Reading.{Refusal, record_form, stage_at, start}
use Rattle.faust_store.specs.Records.{IsRecord, SpellsLine, end_form}
use Rattle.faust_store.specs.Words.{entry_word}

-- Tokens are refused in a field, or behind it.
abbrev pub IsFaultThen : (field : Field) → (Given field → List (List ℕ) → Type 0) → List (List ℕ) → Cause → Type 0
IsFaultThen field Behind [] cause = cause ≡ causes.Word
IsFaultThen field Behind (token ∷ tokens) cause =
    IsFault field token cause ⊎ ((given : Given field) × SpellsField field given token × Behind given tokens)

-- Why the tokens of an entry are refused, from left to right: its number, its word, and the fields of the word.
abbrev pub IsKindFault : ℕ → List (List ℕ) → Cause → Type 0
IsKindFault n tokens cause = IsFaultThen kind (λ k behind. IsFirstFault (begin_form n k) behind cause) tokens cause

abbrev pub IsBeginFault : ℕ → List (List ℕ) → Cause → Type 0
IsBeginFault n tokens cause = IsFaultThen (client n) (λ i behind. IsKindFault n behind cause) tokens cause

abbrev pub arrive_form : ℕ → ℕ → List Field
arrive_form version n = cond (version == 1) (client_form n) (bytes_form n)

abbrev pub IsNamedFault : ℕ → ℕ → Option EntryWord → List (List ℕ) → Cause → Type 0
IsNamedFault version n None tokens cause = cause ≡ causes.Word
IsNamedFault version n (Some words.Begin) tokens cause = IsBeginFault n tokens cause
IsNamedFault version n (Some words.Arrive) tokens cause = IsFirstFault (arrive_form version n) tokens cause
IsNamedFault version n (Some words.Reply) tokens cause = IsFirstFault (bytes_form n) tokens cause
IsNamedFault version n (Some words.Peer) tokens cause = IsFirstFault (bytes_form n) tokens cause
IsNamedFault version n (Some words.Tick) tokens cause = IsFirstFault (tick_form n) tokens cause

abbrev pub IsWordFault : ℕ → ℕ → List (List ℕ) → Cause → Type 0
IsWordFault version n [] cause = cause ≡ causes.Word
IsWordFault version n (token ∷ tokens) cause = IsNamedFault version n (entry_word token) tokens cause

abbrev pub IsEntryFault : ℕ → ℕ → List (List ℕ) → Cause → Type 0
IsEntryFault version n tokens cause = IsFaultThen any_number (λ q behind. IsWordFault version n behind cause) tokens cause

-- Why client i can't begin: it has a notice, or it isn't idle.
abbrev pub client_in : Run → ℕ → Client
client_in run i = replay run.config i (entries_of i run.entries)

abbrev pub HasNotice : Run → ℕ → Type 0
HasNotice run i = (notice : Notice) × ((client_in run i).notice ≡ Some notice)

abbrev pub IsBusy : Run → ℕ → Type 0
IsBusy run i = ((client_in run i).notice ≡ None) × (is_idle i (client_in run i) ≡ false)

abbrev pub CantBegin : Run → ℕ → Cause → Type 0
CantBegin run i cause = ((cause ≡ causes.Failed) × HasNotice run i) ⊎ ((cause ≡ causes.Busy) × IsBusy run i)

abbrev pub CantArrive : Run → ℕ → Cause → Type 0
CantArrive run i cause = (cause ≡ causes.Nothing) × (next_message i run.entries ≡ None)

-- Why what a line says isn't taken: it can't be played; or the message that arrives isn't the next one.
abbrev pub CantCome : Run → ℕ → PushInput → Cause → Type 0
CantCome run i (inputs.Write value) cause = CantBegin run i cause
CantCome run i (inputs.Read register) cause = CantBegin run i cause
CantCome run i (inputs.Reply bytes) cause = ⊥
CantCome run i (inputs.Peer bytes) cause = ⊥
CantCome run i (inputs.Tick moment) cause = ⊥
CantCome run i inputs.Arrive cause = CantArrive run i cause

abbrev pub IsOtherMessage : Run → ℕ → List ℕ → Type 0
IsOtherMessage run i message = (due : List ℕ) × (next_message i run.entries ≡ Some due) × (due ≢ message)

abbrev pub CantTake : Run → EntryLine → Cause → Type 0
CantTake run (said.Comes i input) cause = CantCome run i input cause
CantTake run (said.Arrives i message) cause = CantArrive run i cause ⊎ ((cause ≡ causes.Frame) × IsOtherMessage run i message)

-- An entry that is spelled is refused where its number isn't the next one, and else as it is taken.
pub record IsRefusedEntry (version : ℕ) (run : Run) (tokens : List (List ℕ)) (cause : Cause) : Type 0 where
  pub token : List ℕ
  pub behind : List (List ℕ)
  pub line : EntryLine
  pub tokens_are : tokens ≡ token ∷ behind
  pub is_number : SpellsField any_number token token
  pub spelled : SpellsLine version run.config.clients line behind
  pub why : ((cause ≡ causes.Order) × (token ≢ decimal (length run.entries)))
      ⊎ ((token ≡ decimal (length run.entries)) × CantTake run line cause)

-- An end line of another number; and a line that is no end line.
abbrev pub IsWrongEnd : Run → List (List ℕ) → Type 0
IsWrongEnd run tokens = (token : List ℕ) × SpellsFields end_form (tt, (token, tt)) tokens × (token ≢ decimal (length run.entries))

abbrev pub IsNoEnd : List (List ℕ) → Type 0
IsNoEnd tokens = (token : List ℕ) → ¬ (SpellsFields end_form (tt, (token, tt)) tokens)

-- Why the tokens of a line behind the head are refused.
abbrev pub IsItemFault : ℕ → Run → List (List ℕ) → Cause → Type 0
IsItemFault version run tokens cause =
    ((cause ≡ causes.Order) × IsWrongEnd run tokens)
    ⊎ (IsNoEnd tokens × (((cause ≡ causes.Events) × (20000 ≤ length run.entries))
    ⊎ ((length run.entries < 20000) × (IsEntryFault version run.config.clients tokens cause ⊎ IsRefusedEntry version run tokens cause))))

-- Why the text of a line is refused, by what was read before it.
abbrev pub IsTextFault : Stage → List ℕ → Cause → Type 0
IsTextFault (stages.Head head) text cause = IsFirstFault (due_form record_form head) (tokens_of text) cause
IsTextFault (stages.Entries version run) text cause = IsItemFault version run (tokens_of text) cause
IsTextFault (stages.Ended run) text cause = cause ≡ causes.AfterEnd

-- Why a line is refused: it is too long; or else cut off; or else its text is refused.
abbrev pub IsLineFault : Stage → TextLine → Cause → Type 0
IsLineFault stage line cause = ((cause ≡ causes.TooLong) × (40000 < length line.bytes))
    ⊎ ((length line.bytes ≤ 40000)
    × (((cause ≡ causes.CutOff) × (line.ended ≡ false)) ⊎ ((line.ended ≡ true) × IsTextFault stage line.bytes cause)))

-- The input ends before the record does, or the next line is refused.
abbrev pub IsNotEnded : Stage → Type 0
IsNotEnded (stages.Head head) = Unit {0}
IsNotEnded (stages.Entries version run) = Unit {0}
IsNotEnded (stages.Ended run) = ⊥

abbrev pub IsRefusedThere : Stage → List TextLine → Cause → Type 0
IsRefusedThere stage [] cause = (cause ≡ causes.CutOff) × IsNotEnded stage
IsRefusedThere stage (line ∷ lines) cause = IsLineFault stage line cause

-- What lines are read to.
unfoldable pub reached : Stage → List TextLine → Result Stage Cause
reached stage [] = Ok stage
reached stage (line ∷ lines) = stage_at stage line >>= λ next. reached next lines

-- The line that is refused: the lines before it are read, and it isn't.
pub record IsRefused (input : List ℕ) (refusal : Refusal) : Type 0 where
  pub before : ℕ
  pub line_is : refusal.line ≡ before + 1
  pub within : before ≤ length (lines_of input)
  pub stage : Stage
  pub read_before : reached start (take before (lines_of input)) ≡ Ok stage
  pub why : IsRefusedThere stage (drop before (lines_of input)) refusal.cause

-- What reading answers, in these words: the run whose record the input is, or the refused line.
abbrev pub IsAnswer : List ℕ → Result Run StoreError → Type 0
IsAnswer input (Ok run) = IsRecord run input
IsAnswer input (Err (errors.BadRecord line cause)) = IsRefused input (record { line = line; cause = cause })
IsAnswer input (Err errors.OutOfMemory) = Unit {0}
