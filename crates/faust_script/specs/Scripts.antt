-- Which bytes are a script's text: the same as `specs/Parsing.antt` in other words.
use Rattle.std.specs.Prelude.{◌≡◌, ℕ, ◌≤◌, List, [], ◌∷◌, ◌++◌, length, codes}
use Rattle.std.specs.List.{AllByRecursion}
use Rattle.faust_text.specs.Fields.{Field, AllGiven}
use Rattle.faust_text.specs.Heads.{AreHeadLines}
use Rattle.faust_text.specs.Lines.{IsWithout, ended_text}
use Rattle.faust_text.specs.Spelled.{SpellsField, SpellsFields}
use Rattle.faust_text.specs.Tokens.{tokens_of}
use Rattle.faust_script.specs.declared.event.Event.{Event}
use Rattle.faust_script.specs.declared.event.Event.TheVariants as event
use Rattle.faust_script.specs.declared.edit.Edit.{Edit}
use Rattle.faust_script.specs.declared.edit.Edit.TheVariants as edit
use Rattle.faust_script.specs.declared.script.Script.{Script}
use Rattle.faust_script.specs.declared.word.EventWord.{EventWord}
use Rattle.faust_script.specs.declared.word.EventWord.TheVariants as words
use Rattle.faust_script.specs.declared.word.EditWord.{EditWord}
use Rattle.faust_script.specs.declared.word.EditWord.TheVariants as edit_words
use Rattle.faust_script.specs.Forms.{client, edit_form, event_form}
use Rattle.faust_script.specs.Parsing.{script_form}
use Rattle.faust_script.specs.Words.{edit_text, event_text}

-- A word, and then one token for each field.
abbrev pub Spells : List ℕ → (fields : List Field) → AllGiven fields → List (List ℕ) → Type 0
Spells name fields given [] = ⊥
Spells name fields given (token ∷ tokens) = (token ≡ name) × SpellsFields fields given tokens

abbrev pub SpellsWord : (n : ℕ) (word : EventWord) → AllGiven (event_form n word) → List (List ℕ) → Type 0
SpellsWord n word given tokens = Spells (event_text word) (event_form n word) given tokens

abbrev pub SpellsEditWord : (n : ℕ) (word : EditWord) → AllGiven (edit_form n word) → List (List ℕ) → Type 0
SpellsEditWord n word given tokens = Spells (edit_text word) (edit_form n word) given tokens

-- The tokens spell an edit, in a script for n clients.
abbrev pub SpellsEdit : ℕ → Edit → List (List ℕ) → Type 0
SpellsEdit n (edit.C k) tokens = SpellsEditWord n edit_words.C (k, tt) tokens
SpellsEdit n (edit.V k t) tokens = SpellsEditWord n edit_words.V (k, (t, tt)) tokens
SpellsEdit n (edit.M k) tokens = SpellsEditWord n edit_words.M (k, tt) tokens
SpellsEdit n edit.Ctag tokens = SpellsEditWord n edit_words.Ctag tt tokens
SpellsEdit n (edit.Add k kind_of j) tokens = SpellsEditWord n edit_words.Add (k, (kind_of, (j, tt))) tokens
SpellsEdit n (edit.DropTuple q) tokens = SpellsEditWord n edit_words.DropTuple (q, tt) tokens
SpellsEdit n (edit.Swap q) tokens = SpellsEditWord n edit_words.Swap (q, tt) tokens
SpellsEdit n (edit.Ltag q) tokens = SpellsEditWord n edit_words.Ltag (q, tt) tokens
SpellsEdit n (edit.Proof k) tokens = SpellsEditWord n edit_words.Proof (k, tt) tokens
SpellsEdit n (edit.Noproof k) tokens = SpellsEditWord n edit_words.Noproof (k, tt) tokens
SpellsEdit n (edit.Jv k t) tokens = SpellsEditWord n edit_words.Jv (k, (t, tt)) tokens
SpellsEdit n edit.Jtag tokens = SpellsEditWord n edit_words.Jtag tt tokens
SpellsEdit n (edit.T t) tokens = SpellsEditWord n edit_words.T (t, tt) tokens
SpellsEdit n (edit.Value v) tokens = SpellsEditWord n edit_words.Value (v, tt) tokens
SpellsEdit n edit.Dtag tokens = SpellsEditWord n edit_words.Dtag tt tokens
SpellsEdit n edit.Unread tokens = SpellsEditWord n edit_words.Unread tt tokens

-- A word, a client, and then an edit.
abbrev pub SpellsEditing : ℕ → List ℕ → ℕ → Edit → List (List ℕ) → Type 0
SpellsEditing n name i made [] = ⊥
SpellsEditing n name i made (token ∷ []) = ⊥
SpellsEditing n name i made (token ∷ next ∷ tokens) = (token ≡ name) × SpellsField (client n) i next × SpellsEdit n made tokens

-- The tokens spell an event.
abbrev pub SpellsEvent : ℕ → Event → List (List ℕ) → Type 0
SpellsEvent n (event.Write i v) tokens = SpellsWord n words.Write (i, (v, tt)) tokens
SpellsEvent n (event.Read i j) tokens = SpellsWord n words.Read (i, (j, tt)) tokens
SpellsEvent n (event.Arrive i) tokens = SpellsWord n words.Arrive (i, tt) tokens
SpellsEvent n (event.Reply i) tokens = SpellsWord n words.Reply (i, tt) tokens
SpellsEvent n (event.Tick i m) tokens = SpellsWord n words.Tick (i, (m, tt)) tokens
SpellsEvent n (event.Peer i j k) tokens = SpellsWord n words.Peer (i, (j, (k, tt))) tokens
SpellsEvent n (event.Post j b) tokens = SpellsWord n words.Post (j, (b, tt)) tokens
SpellsEvent n (event.Branch a b) tokens = SpellsWord n words.Branch (a, (b, tt)) tokens
SpellsEvent n (event.Route i b) tokens = SpellsWord n words.Route (i, (b, tt)) tokens
SpellsEvent n (event.Echo i k b) tokens = SpellsWord n words.Echo (i, (k, (b, tt))) tokens
SpellsEvent n (event.Again i k) tokens = SpellsWord n words.Again (i, (k, tt)) tokens
SpellsEvent n (event.Edited i made) tokens = SpellsEditing n (event_text words.Edit) i made tokens
SpellsEvent n (event.Forged i made) tokens = SpellsEditing n (event_text words.Forge) i made tokens
SpellsEvent n (event.Raw i b) tokens = SpellsWord n words.Raw (i, (b, tt)) tokens

-- One line an event.
abbrev pub AreEventLines : ℕ → List Event → List (List ℕ) → Type 0
AreEventLines n [] [] = Unit {0}
AreEventLines n [] (text ∷ texts) = ⊥
AreEventLines n (event ∷ events) [] = ⊥
AreEventLines n (event ∷ events) (text ∷ texts) = SpellsEvent n event (tokens_of text) × AreEventLines n events texts

-- The text of a line: without a line feed, and not too long.
pub record IsLineText (text : List ℕ) : Type 0 where
  pub one_line : IsWithout 10 text
  pub not_too_long : length text ≤ 40000

-- The bytes are the text of the script: the lines of a head in its format, one line an event of at most 20,000 events, and `end`.
pub record IsScriptText (script : Script) (input : List ℕ) : Type 0 where
  pub head : List (List ℕ)
  pub lines : List (List ℕ)
  pub line_texts : AllByRecursion IsLineText (head ++ (lines ++ codes "end" ∷ []))
  pub input_is : input ≡ ended_text (head ++ (lines ++ codes "end" ∷ []))
  pub head_spelled : AreHeadLines script_form script.format script.config head
  pub events_spelled : AreEventLines script.config.clients script.events lines
  pub few_events : length script.events ≤ 20000
