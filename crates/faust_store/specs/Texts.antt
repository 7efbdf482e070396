-- The text of a run: the lines of its head, one line an entry, and `end` with the number of entries. Outcomes aren't
-- written.
use Rattle.std.specs.Prelude.{◌≡◌, ℕ, ◌==◌, ◌⊎◌, cond, List, [], ◌∷◌, ◌++◌, length, codes, Some}
use Rattle.std.specs.Fmt.{decimal}
use Rattle.faust_types.specs.declared.operation.Kind.TheVariants as kinds
use Rattle.faust_text.specs.declared.head.Title.TheVariants as titles
use Rattle.faust_text.specs.Heads.{head_lines}
use Rattle.faust_text.specs.Lines.{ended_text}
use Rattle.faust_text.specs.Spelled.{kind_text}
use Rattle.faust_text.specs.Tokens.{joined}
use Rattle.faust_text.specs.Values.{bytes_text, value_text}
use Rattle.faust_record.specs.Runs.{Run}
use Rattle.faust_record.specs.declared.entry.Input.{Input}
use Rattle.faust_record.specs.declared.entry.Input.TheVariants as inputs
use Rattle.faust_record.specs.declared.entry.Entry.{Entry}
use Rattle.faust_store.specs.declared.word.EntryWord.TheVariants as words
use Rattle.faust_store.specs.Words.{word_text}

-- Which versions of the text there are of a run: 1 of a run of wire 1, and 2 of each.
abbrev pub IsTextVersion : ℕ → ℕ → Type 0
IsTextVersion version wire = ((version ≡ 1) × (wire ≡ 1)) ⊎ (version ≡ 2)

-- The tokens of an entry behind its number. The message that arrives stands in version 2 alone.
abbrev pub arrival_tokens : ℕ → ℕ → List ℕ → List (List ℕ)
arrival_tokens version i message = word_text words.Arrive ∷ decimal i ∷ cond (version == 1) [] (bytes_text message ∷ [])

abbrev pub input_tokens : ℕ → ℕ → Input → List (List ℕ)
input_tokens version i (inputs.Write value) = word_text words.Begin ∷ decimal i ∷ kind_text kinds.Write ∷ value_text (Some value) ∷ []
input_tokens version i (inputs.Read register) = word_text words.Begin ∷ decimal i ∷ kind_text kinds.Read ∷ decimal register ∷ []
input_tokens version i (inputs.Reply bytes) = word_text words.Reply ∷ decimal i ∷ bytes_text bytes ∷ []
input_tokens version i (inputs.Peer bytes) = word_text words.Peer ∷ decimal i ∷ bytes_text bytes ∷ []
input_tokens version i (inputs.Tick moment) = word_text words.Tick ∷ decimal i ∷ decimal moment ∷ []
input_tokens version i (inputs.Arrive message) = arrival_tokens version i message

-- An entry's line.
abbrev pub entry_line : ℕ → Entry → List ℕ
entry_line version entry = joined (decimal entry.number ∷ input_tokens version entry.client entry.input)

abbrev pub entry_lines : ℕ → List Entry → List (List ℕ)
entry_lines version [] = []
entry_lines version (entry ∷ entries) = entry_line version entry ∷ entry_lines version entries

-- The last line.
abbrev pub end_line : ℕ → List ℕ
end_line count = joined (codes "end" ∷ decimal count ∷ [])

-- All lines, and the text.
abbrev pub record_lines : Run → ℕ → List (List ℕ)
record_lines run version = head_lines titles.Record version run.config
    ++ (entry_lines version run.entries ++ end_line (length run.entries) ∷ [])

unfoldable pub record_text : Run → ℕ → List ℕ
record_text run version = ended_text (record_lines run version)
