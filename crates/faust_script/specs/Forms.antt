-- Events and edits: the table of words with their fields, and what they make. The grammar, its refusals and their laws
-- cite this table.
use Rattle.std.specs.Prelude.{ℕ, ◌^◌, ◌-◌, List, [], ◌∷◌, Option, Some, None, Result, Ok, Err}
use Rattle.faust_text.specs.declared.cause.Cause.{Cause}
use Rattle.faust_text.specs.declared.cause.Cause.TheVariants as causes
use Rattle.faust_text.specs.Fields.{Field, number, kind, value, bytes, fields_at, next_field, ◌>>=◌}
use Rattle.faust_script.specs.declared.event.Event.{Event}
use Rattle.faust_script.specs.declared.event.Event.TheVariants as event
use Rattle.faust_script.specs.declared.edit.Edit.{Edit}
use Rattle.faust_script.specs.declared.edit.Edit.TheVariants as edit
use Rattle.faust_script.specs.declared.word.EventWord.{EventWord}
use Rattle.faust_script.specs.declared.word.EventWord.TheVariants as words
use Rattle.faust_script.specs.declared.word.EditWord.{EditWord}
use Rattle.faust_script.specs.declared.word.EditWord.TheVariants as edit_words
use Rattle.faust_script.specs.Words.{event_word, edit_word}

-- The fields: one of n clients, the place of a message or a reply or a tuple, a branch, a moment, a timestamp.
abbrev pub client : ℕ → Field
client n = number 1 n

abbrev pub place : Field
place = number 1 20000

abbrev pub branch : Field
branch = number 0 7

abbrev pub moment : Field
moment = number 0 (2 ^ 40 - 1)

abbrev pub timestamp : Field
timestamp = number 1 (2 ^ 40 - 1)

-- The events: a word, and its fields in order. Behind the fields of `edit` and `forge` stands an edit.
abbrev pub event_form : ℕ → EventWord → List Field
event_form n words.Write = client n ∷ value ∷ []
event_form n words.Read = client n ∷ client n ∷ []
event_form n words.Arrive = client n ∷ []
event_form n words.Reply = client n ∷ []
event_form n words.Tick = client n ∷ moment ∷ []
event_form n words.Peer = client n ∷ client n ∷ place ∷ []
event_form n words.Post = client n ∷ bytes ∷ []
event_form n words.Branch = branch ∷ branch ∷ []
event_form n words.Route = client n ∷ branch ∷ []
event_form n words.Echo = client n ∷ place ∷ branch ∷ []
event_form n words.Again = client n ∷ place ∷ []
event_form n words.Edit = client n ∷ []
event_form n words.Forge = client n ∷ []
event_form n words.Raw = client n ∷ bytes ∷ []

-- The edits: a word, and its fields in order.
abbrev pub edit_form : ℕ → EditWord → List Field
edit_form n edit_words.C = client n ∷ []
edit_form n edit_words.V = client n ∷ timestamp ∷ []
edit_form n edit_words.M = client n ∷ []
edit_form n edit_words.Ctag = []
edit_form n edit_words.Add = client n ∷ kind ∷ client n ∷ []
edit_form n edit_words.DropTuple = place ∷ []
edit_form n edit_words.Swap = place ∷ []
edit_form n edit_words.Ltag = place ∷ []
edit_form n edit_words.Proof = client n ∷ []
edit_form n edit_words.Noproof = client n ∷ []
edit_form n edit_words.Jv = client n ∷ timestamp ∷ []
edit_form n edit_words.Jtag = []
edit_form n edit_words.T = timestamp ∷ []
edit_form n edit_words.Value = value ∷ []
edit_form n edit_words.Dtag = []
edit_form n edit_words.Unread = []

-- The edit of each word.
unfoldable pub edit_by : ℕ → EditWord → List (List ℕ) → Result Edit Cause
edit_by n edit_words.C tokens = fields_at (edit_form n edit_words.C) tokens >>= λ given. Ok (edit.C given.0)
edit_by n edit_words.V tokens = fields_at (edit_form n edit_words.V) tokens >>= λ given. Ok (edit.V given.0 given.1.0)
edit_by n edit_words.M tokens = fields_at (edit_form n edit_words.M) tokens >>= λ given. Ok (edit.M given.0)
edit_by n edit_words.Ctag tokens = fields_at (edit_form n edit_words.Ctag) tokens >>= λ given. Ok edit.Ctag
edit_by n edit_words.Add tokens = fields_at (edit_form n edit_words.Add) tokens >>= λ given. Ok (edit.Add given.0 given.1.0 given.1.1.0)
edit_by n edit_words.DropTuple tokens = fields_at (edit_form n edit_words.DropTuple) tokens >>= λ given. Ok (edit.DropTuple given.0)
edit_by n edit_words.Swap tokens = fields_at (edit_form n edit_words.Swap) tokens >>= λ given. Ok (edit.Swap given.0)
edit_by n edit_words.Ltag tokens = fields_at (edit_form n edit_words.Ltag) tokens >>= λ given. Ok (edit.Ltag given.0)
edit_by n edit_words.Proof tokens = fields_at (edit_form n edit_words.Proof) tokens >>= λ given. Ok (edit.Proof given.0)
edit_by n edit_words.Noproof tokens = fields_at (edit_form n edit_words.Noproof) tokens >>= λ given. Ok (edit.Noproof given.0)
edit_by n edit_words.Jv tokens = fields_at (edit_form n edit_words.Jv) tokens >>= λ given. Ok (edit.Jv given.0 given.1.0)
edit_by n edit_words.Jtag tokens = fields_at (edit_form n edit_words.Jtag) tokens >>= λ given. Ok edit.Jtag
edit_by n edit_words.T tokens = fields_at (edit_form n edit_words.T) tokens >>= λ given. Ok (edit.T given.0)
edit_by n edit_words.Value tokens = fields_at (edit_form n edit_words.Value) tokens >>= λ given. Ok (edit.Value given.0)
edit_by n edit_words.Dtag tokens = fields_at (edit_form n edit_words.Dtag) tokens >>= λ given. Ok edit.Dtag
edit_by n edit_words.Unread tokens = fields_at (edit_form n edit_words.Unread) tokens >>= λ given. Ok edit.Unread

abbrev pub edit_named : ℕ → Option EditWord → List (List ℕ) → Result Edit Cause
edit_named n None tokens = Err causes.Word
edit_named n (Some word) tokens = edit_by n word tokens

-- The edit that tokens spell, or the cause of the first that may not stand there.
unfoldable pub edit_at : ℕ → List (List ℕ) → Result Edit Cause
edit_at n [] = Err causes.Word
edit_at n (token ∷ tokens) = edit_named n (edit_word token) tokens

-- A client, and then an edit.
abbrev pub client_and_edit_at : ℕ → List (List ℕ) → Result (ℕ × Edit) Cause
client_and_edit_at n tokens = next_field (client n) tokens >>= λ given. edit_at n given.1 >>= λ made. Ok (given.0, made)

-- The event of each word.
unfoldable pub event_by : ℕ → EventWord → List (List ℕ) → Result Event Cause
event_by n words.Write tokens = fields_at (event_form n words.Write) tokens >>= λ given. Ok (event.Write given.0 given.1.0)
event_by n words.Read tokens = fields_at (event_form n words.Read) tokens >>= λ given. Ok (event.Read given.0 given.1.0)
event_by n words.Arrive tokens = fields_at (event_form n words.Arrive) tokens >>= λ given. Ok (event.Arrive given.0)
event_by n words.Reply tokens = fields_at (event_form n words.Reply) tokens >>= λ given. Ok (event.Reply given.0)
event_by n words.Tick tokens = fields_at (event_form n words.Tick) tokens >>= λ given. Ok (event.Tick given.0 given.1.0)
event_by n words.Peer tokens = fields_at (event_form n words.Peer) tokens >>= λ given. Ok (event.Peer given.0 given.1.0 given.1.1.0)
event_by n words.Post tokens = fields_at (event_form n words.Post) tokens >>= λ given. Ok (event.Post given.0 given.1.0)
event_by n words.Branch tokens = fields_at (event_form n words.Branch) tokens >>= λ given. Ok (event.Branch given.0 given.1.0)
event_by n words.Route tokens = fields_at (event_form n words.Route) tokens >>= λ given. Ok (event.Route given.0 given.1.0)
event_by n words.Echo tokens = fields_at (event_form n words.Echo) tokens >>= λ given. Ok (event.Echo given.0 given.1.0 given.1.1.0)
event_by n words.Again tokens = fields_at (event_form n words.Again) tokens >>= λ given. Ok (event.Again given.0 given.1.0)
event_by n words.Edit tokens = client_and_edit_at n tokens >>= λ given. Ok (event.Edited given.0 given.1)
event_by n words.Forge tokens = client_and_edit_at n tokens >>= λ given. Ok (event.Forged given.0 given.1)
event_by n words.Raw tokens = fields_at (event_form n words.Raw) tokens >>= λ given. Ok (event.Raw given.0 given.1.0)

abbrev pub event_named : ℕ → Option EventWord → List (List ℕ) → Result Event Cause
event_named n None tokens = Err causes.Word
event_named n (Some word) tokens = event_by n word tokens

-- The event that the tokens of a line spell, or the cause of the first that may not stand there.
unfoldable pub event_at : ℕ → List (List ℕ) → Result Event Cause
event_at n [] = Err causes.Word
event_at n (token ∷ tokens) = event_named n (event_word token) tokens
