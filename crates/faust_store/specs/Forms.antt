-- The lines of entries: a number, a word and its fields, and what they say. Reading cites this table.
use Rattle.std.specs.Prelude.{ℕ, ◌^◌, ◌-◌, ◌==◌, ◌&&◌, cond, List, [], ◌∷◌, codes, Option, Some, None, Result, Ok, Err}
use Rattle.std.specs.Str.{bytes_eq}
use Rattle.faust_types.specs.declared.operation.Kind.{Kind}
use Rattle.faust_types.specs.declared.operation.Kind.TheVariants as kinds
use Rattle.faust_text.specs.declared.cause.Cause.{Cause}
use Rattle.faust_text.specs.declared.cause.Cause.TheVariants as causes
use Rattle.faust_text.specs.Fields.{Field, number, any_number, kind, value, bytes, fields_at, next_field, ◌>>=◌}
use Rattle.faust_text.specs.Numbers.{is_number}
use Rattle.faust_record.specs.declared.run_record.PushInput.TheVariants as inputs
use Rattle.faust_store.specs.declared.entry_line.EntryLine.{EntryLine}
use Rattle.faust_store.specs.declared.entry_line.EntryLine.TheVariants as lines
use Rattle.faust_store.specs.declared.word.EntryWord.{EntryWord}
use Rattle.faust_store.specs.declared.word.EntryWord.TheVariants as words
use Rattle.faust_store.specs.Words.{entry_word}

-- The fields: one of n clients, a moment.
abbrev pub client : ℕ → Field
client n = number 1 n

abbrev pub moment : Field
moment = number 0 (2 ^ 40 - 1)

-- The entries: a word and its fields. A beginning has a client and a kind, and then what is written or read; an arrival
-- has its message under version 2 alone.
abbrev pub begin_form : ℕ → Kind → List Field
begin_form n kinds.Write = value ∷ []
begin_form n kinds.Read = client n ∷ []

abbrev pub client_form : ℕ → List Field
client_form n = client n ∷ []

abbrev pub bytes_form : ℕ → List Field
bytes_form n = client n ∷ bytes ∷ []

abbrev pub tick_form : ℕ → List Field
tick_form n = client n ∷ moment ∷ []

unfoldable pub begun_by : ℕ → ℕ → Kind → List (List ℕ) → Result EntryLine Cause
begun_by n i kinds.Write tokens = fields_at (begin_form n kinds.Write) tokens >>= λ given. Ok (lines.Comes i (inputs.Write given.0))
begun_by n i kinds.Read tokens = fields_at (begin_form n kinds.Read) tokens >>= λ given. Ok (lines.Comes i (inputs.Read given.0))

abbrev pub arrival_by : ℕ → ℕ → List (List ℕ) → Result EntryLine Cause
arrival_by version n tokens = cond (version == 1)
    (fields_at (client_form n) tokens >>= λ given. Ok (lines.Comes given.0 inputs.Arrive))
    (fields_at (bytes_form n) tokens >>= λ given. Ok (lines.Arrives given.0 given.1.0))

-- What the line of each word says, for n clients, under a version of the text.
unfoldable pub line_by : ℕ → ℕ → EntryWord → List (List ℕ) → Result EntryLine Cause
line_by version n words.Begin tokens = next_field (client n) tokens >>= λ i. next_field kind i.1 >>= λ k. begun_by n i.0 k.0 k.1
line_by version n words.Arrive tokens = arrival_by version n tokens
line_by version n words.Reply tokens = fields_at (bytes_form n) tokens >>= λ given. Ok (lines.Comes given.0 (inputs.Reply given.1.0))
line_by version n words.Peer tokens = fields_at (bytes_form n) tokens >>= λ given. Ok (lines.Comes given.0 (inputs.Peer given.1.0))
line_by version n words.Tick tokens = fields_at (tick_form n) tokens >>= λ given. Ok (lines.Comes given.0 (inputs.Tick given.1.0))

abbrev pub line_named : ℕ → ℕ → Option EntryWord → List (List ℕ) → Result EntryLine Cause
line_named version n None tokens = Err causes.Word
line_named version n (Some word) tokens = line_by version n word tokens

unfoldable pub line_at : ℕ → ℕ → List (List ℕ) → Result EntryLine Cause
line_at version n [] = Err causes.Word
line_at version n (token ∷ tokens) = line_named version n (entry_word token) tokens

-- The number of an entry's line, by its digits, and what the line says, or the cause of its first token that may not
-- stand there.
unfoldable pub entry_at : ℕ → ℕ → List (List ℕ) → Result (List ℕ × EntryLine) Cause
entry_at version n tokens = next_field any_number tokens >>= λ q. line_at version n q.1 >>= λ line. Ok (q.0, line)

-- The number of an end line, by its digits: the tokens are `end` and a number, however great. There is none where the
-- tokens are no end line.
unfoldable pub end_number : List (List ℕ) → Option (List ℕ)
end_number [] = None
end_number (name ∷ []) = None
end_number (name ∷ token ∷ []) = cond (bytes_eq name (codes "end") && is_number token) (Some token) None
end_number (name ∷ token ∷ next ∷ tokens) = None
