-- Which bytes are a run's record: the same as `specs/Reading.antt` in other words. A value may be spelled in both ways.
use Rattle.std.specs.Prelude.{◌≡◌, ℕ, ◌==◌, ◌≤◌, Bool, true, false, List, [], ◌∷◌, ◌++◌, length, codes}
use Rattle.std.specs.Fmt.{decimal}
use Rattle.std.specs.List.{AllByRecursion}
use Rattle.faust_types.specs.declared.operation.Kind.TheVariants as kinds
use Rattle.faust_text.specs.Fields.{Field, any_number, kind, value, word}
use Rattle.faust_text.specs.Heads.{AreHeadLines}
use Rattle.faust_text.specs.Lines.{IsWithout, ended_text}
use Rattle.faust_text.specs.Spelled.{SpellsFields}
use Rattle.faust_text.specs.Tokens.{tokens_of}
use Rattle.faust_record.specs.Runs.{IsRun, Run}
use Rattle.faust_record.specs.declared.entry.Input.{Input}
use Rattle.faust_record.specs.declared.entry.Input.TheVariants as inputs
use Rattle.faust_record.specs.declared.entry.Entry.{Entry}
use Rattle.faust_record.specs.declared.run_record.PushInput.TheVariants as pushes
use Rattle.faust_store.specs.declared.entry_line.EntryLine.{EntryLine}
use Rattle.faust_store.specs.declared.entry_line.EntryLine.TheVariants as said
use Rattle.faust_store.specs.declared.word.EntryWord.{EntryWord}
use Rattle.faust_store.specs.declared.word.EntryWord.TheVariants as words
use Rattle.faust_store.specs.Forms.{bytes_form, client, client_form, tick_form}
use Rattle.faust_store.specs.Reading.{record_form}
use Rattle.faust_store.specs.Words.{word_text}

-- A word, and then its fields.
abbrev pub worded : EntryWord → List Field → List Field
worded name fields = word (word_text name) ∷ fields

abbrev pub write_form : ℕ → List Field
write_form n = worded words.Begin (client n ∷ kind ∷ value ∷ [])

abbrev pub read_form : ℕ → List Field
read_form n = worded words.Begin (client n ∷ kind ∷ client n ∷ [])

-- An arrival stands alone, or with its message.
abbrev pub SpellsArrival : Bool → ℕ → ℕ → List ℕ → List (List ℕ) → Type 0
SpellsArrival true n i message tokens = SpellsFields (worded words.Arrive (client_form n)) (tt, (i, tt)) tokens
SpellsArrival false n i message tokens = SpellsFields (worded words.Arrive (bytes_form n)) (tt, (i, (message, tt))) tokens

-- The tokens spell what comes to client i of n, or what arrives of it.
abbrev pub SpellsInput : ℕ → ℕ → ℕ → Input → List (List ℕ) → Type 0
SpellsInput version n i (inputs.Write v) tokens = SpellsFields (write_form n) (tt, (i, (kinds.Write, (v, tt)))) tokens
SpellsInput version n i (inputs.Read j) tokens = SpellsFields (read_form n) (tt, (i, (kinds.Read, (j, tt)))) tokens
SpellsInput version n i (inputs.Reply b) tokens = SpellsFields (worded words.Reply (bytes_form n)) (tt, (i, (b, tt))) tokens
SpellsInput version n i (inputs.Peer b) tokens = SpellsFields (worded words.Peer (bytes_form n)) (tt, (i, (b, tt))) tokens
SpellsInput version n i (inputs.Tick m) tokens = SpellsFields (worded words.Tick (tick_form n)) (tt, (i, (m, tt))) tokens
SpellsInput version n i (inputs.Arrive message) tokens = SpellsArrival (version == 1) n i message tokens

-- The tokens spell what a line says: what comes to a client of n, or an arrival alone under version 1, or an arrival with
-- its message.
abbrev pub SpellsLine : ℕ → ℕ → EntryLine → List (List ℕ) → Type 0
SpellsLine version n (said.Comes i (pushes.Write v)) tokens = SpellsFields (write_form n) (tt, (i, (kinds.Write, (v, tt)))) tokens
SpellsLine version n (said.Comes i (pushes.Read j)) tokens = SpellsFields (read_form n) (tt, (i, (kinds.Read, (j, tt)))) tokens
SpellsLine version n (said.Comes i (pushes.Reply b)) tokens = SpellsFields (worded words.Reply (bytes_form n)) (tt, (i, (b, tt))) tokens
SpellsLine version n (said.Comes i (pushes.Peer b)) tokens = SpellsFields (worded words.Peer (bytes_form n)) (tt, (i, (b, tt))) tokens
SpellsLine version n (said.Comes i (pushes.Tick m)) tokens = SpellsFields (worded words.Tick (tick_form n)) (tt, (i, (m, tt))) tokens
SpellsLine version n (said.Comes i pushes.Arrive) tokens =
    ((version == 1) ≡ true) × SpellsFields (worded words.Arrive (client_form n)) (tt, (i, tt)) tokens
SpellsLine version n (said.Arrives i b) tokens =
    ((version == 1) ≡ false) × SpellsFields (worded words.Arrive (bytes_form n)) (tt, (i, (b, tt))) tokens

-- The tokens spell an entry: its number stands first.
abbrev pub SpellsEntry : ℕ → ℕ → Entry → List (List ℕ) → Type 0
SpellsEntry version n entry [] = ⊥
SpellsEntry version n entry (token ∷ tokens) = (token ≡ decimal entry.number) × SpellsInput version n entry.client entry.input tokens

-- One line an entry, and the last line.
abbrev pub AreEntryLines : ℕ → ℕ → List Entry → List (List ℕ) → Type 0
AreEntryLines version n [] [] = Unit {0}
AreEntryLines version n [] (text ∷ texts) = ⊥
AreEntryLines version n (entry ∷ entries) [] = ⊥
AreEntryLines version n (entry ∷ entries) (text ∷ texts) =
    SpellsEntry version n entry (tokens_of text) × AreEntryLines version n entries texts

abbrev pub end_form : List Field
end_form = word (codes "end") ∷ any_number ∷ []

abbrev pub IsEndLine : ℕ → List ℕ → Type 0
IsEndLine count text = SpellsFields end_form (tt, (decimal count, tt)) (tokens_of text)

-- The text of a line: without a line feed, and not too long.
pub record IsLineText (text : List ℕ) : Type 0 where
  pub one_line : IsWithout 10 text
  pub not_too_long : length text ≤ 40000

-- The bytes are a record of the run: the lines of a head of this version, one line an entry of at most 20,000 entries,
-- and the last line with their number.
pub record IsRecordText (version : ℕ) (run : Run) (input : List ℕ) : Type 0 where
  pub head : List (List ℕ)
  pub lines : List (List ℕ)
  pub last : List ℕ
  pub line_texts : AllByRecursion IsLineText (head ++ (lines ++ last ∷ []))
  pub input_is : input ≡ ended_text (head ++ (lines ++ last ∷ []))
  pub head_spelled : AreHeadLines record_form version run.config head
  pub entries_spelled : AreEntryLines version run.config.clients run.entries lines
  pub last_spelled : IsEndLine (length run.entries) last
  pub is_run : IsRun run.config run.entries
  pub few_entries : length run.entries ≤ 20000

-- The bytes are a record of the run, of either version.
abbrev pub IsRecord : Run → List ℕ → Type 0
IsRecord run input = (version : ℕ) × IsRecordText version run input
