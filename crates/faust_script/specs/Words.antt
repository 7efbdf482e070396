-- The words of events and edits.
use Rattle.std.specs.Prelude.{ℕ, List, [], ◌∷◌, codes, Option}
use Rattle.std.specs.List.{find}
use Rattle.std.specs.Str.{bytes_eq}
use Rattle.faust_script.specs.declared.word.EventWord.{EventWord}
use Rattle.faust_script.specs.declared.word.EventWord.TheVariants as events
use Rattle.faust_script.specs.declared.word.EditWord.{EditWord}
use Rattle.faust_script.specs.declared.word.EditWord.TheVariants as edits

abbrev pub event_text : EventWord → List ℕ
event_text events.Write = codes "write"
event_text events.Read = codes "read"
event_text events.Arrive = codes "arrive"
event_text events.Reply = codes "reply"
event_text events.Tick = codes "tick"
event_text events.Peer = codes "peer"
event_text events.Post = codes "post"
event_text events.Branch = codes "branch"
event_text events.Route = codes "route"
event_text events.Echo = codes "echo"
event_text events.Again = codes "again"
event_text events.Edit = codes "edit"
event_text events.Forge = codes "forge"
event_text events.Raw = codes "raw"

abbrev pub event_words : List EventWord
event_words =
    events.Write ∷ events.Read ∷ events.Arrive ∷ events.Reply ∷ events.Tick ∷ events.Peer ∷ events.Post ∷ events.Branch ∷ events.Route
    ∷ events.Echo ∷ events.Again ∷ events.Edit ∷ events.Forge ∷ events.Raw ∷ []

-- The event that a token names.
unfoldable pub event_word : List ℕ → Option EventWord
event_word token = find (λ word. bytes_eq (event_text word) token) event_words

abbrev pub edit_text : EditWord → List ℕ
edit_text edits.C = codes "c"
edit_text edits.V = codes "v"
edit_text edits.M = codes "m"
edit_text edits.Ctag = codes "ctag"
edit_text edits.Add = codes "add"
edit_text edits.DropTuple = codes "drop"
edit_text edits.Swap = codes "swap"
edit_text edits.Ltag = codes "ltag"
edit_text edits.Proof = codes "proof"
edit_text edits.Noproof = codes "noproof"
edit_text edits.Jv = codes "jv"
edit_text edits.Jtag = codes "jtag"
edit_text edits.T = codes "t"
edit_text edits.Value = codes "value"
edit_text edits.Dtag = codes "dtag"
edit_text edits.Unread = codes "unread"

abbrev pub edit_words : List EditWord
edit_words =
    edits.C ∷ edits.V ∷ edits.M ∷ edits.Ctag ∷ edits.Add ∷ edits.DropTuple ∷ edits.Swap ∷ edits.Ltag ∷ edits.Proof ∷ edits.Noproof
    ∷ edits.Jv ∷ edits.Jtag ∷ edits.T ∷ edits.Value ∷ edits.Dtag ∷ edits.Unread ∷ []

-- The edit that a token names.
unfoldable pub edit_word : List ℕ → Option EditWord
edit_word token = find (λ word. bytes_eq (edit_text word) token) edit_words
