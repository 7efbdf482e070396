-- What a script's text spells is in range.
use Rattle.std.proofs.Common.{ℕ, ◌^◌, ◌-◌, ◌≤◌, List, [], ◌∷◌, inl, inr, lit≤, arith}
use Rattle.std.specs.List.{AllByRecursion}
use Rattle.faust_types.specs.Clients.{IsClient}
use Rattle.faust_types.specs.Ranges.{IsOperationNumber}
use Rattle.faust_text.specs.Fields.{Field, AllGiven}
use Rattle.faust_text.specs.Heads.{SpellsWire}
use Rattle.faust_text.specs.Spelled.{AreInRange}
use Rattle.faust_text.specs.Tokens.{tokens_of}
use Rattle.faust_text.proofs.FieldLaws.{fields_in_range}
use Rattle.faust_text.proofs.HeadLaws.{head_in_range}
use Rattle.faust_script.specs.declared.event.Event.{Event}
use Rattle.faust_script.specs.declared.event.Event.TheVariants as event
use Rattle.faust_script.specs.declared.edit.Edit.{Edit}
use Rattle.faust_script.specs.declared.edit.Edit.TheVariants as edit
use Rattle.faust_script.specs.declared.script.Script.{Script}
use Rattle.faust_script.specs.declared.word.EventWord.TheVariants as words
use Rattle.faust_script.specs.declared.word.EditWord.TheVariants as edit_words
use Rattle.faust_script.specs.Forms.{edit_form, event_form}
use Rattle.faust_script.specs.InRange.{IsEditFor, IsEventFor, IsFormat, IsPlace, IsScript}
use Rattle.faust_script.specs.Parsing.{script_form}
use Rattle.faust_script.specs.Scripts.{AreEventLines, IsScriptText, Spells, SpellsEdit, SpellsEditing, SpellsEvent}
use Rattle.faust_script.specs.Words.{edit_text, event_text}

-- The ranges of fields by their names.
as_client : {n i : ℕ} → (1 ≤ i) × (i ≤ n) → IsClient n i
as_client r = record { from_one = r.0; to_n = r.1 }

as_place : {q : ℕ} → (1 ≤ q) × (q ≤ 20000) → IsPlace q
as_place r = record { from_one = r.0; to_20000 = r.1 }

as_number : {t : ℕ} → (1 ≤ t) × (t ≤ 2 ^ 40 - 1) → IsOperationNumber t
as_number r = record { from_one = r.0; below = omega (arith, r.1) }

spelled_in_range : (name : List ℕ) (fields : List Field) (given : AllGiven fields) (tokens : List (List ℕ))
    → Spells name fields given tokens → AreInRange fields given
spelled_in_range name fields given [] is = absurd is
spelled_in_range name fields given (token ∷ tokens) is = fields_in_range fields given tokens is.1

edit_in_range : (n : ℕ) (made : Edit) (tokens : List (List ℕ)) → SpellsEdit n made tokens → IsEditFor n made
edit_in_range n (edit.C k) tokens is = let r = spelled_in_range (edit_text edit_words.C) (edit_form n edit_words.C) (k, tt) tokens is in
    as_client r.0
edit_in_range n (edit.V k t) tokens is = let r = spelled_in_range (edit_text edit_words.V) (edit_form n edit_words.V) (
  k,
  (t, tt),
) tokens is in (as_client r.0, as_number r.1.0)
edit_in_range n (edit.M k) tokens is = let r = spelled_in_range (edit_text edit_words.M) (edit_form n edit_words.M) (k, tt) tokens is in
    as_client r.0
edit_in_range n edit.Ctag tokens is = tt
edit_in_range n (edit.Add k kind_of j) tokens is = let r = spelled_in_range (edit_text edit_words.Add) (edit_form n edit_words.Add) (
  k,
  (kind_of, (j, tt)),
) tokens is in (as_client r.0, as_client r.1.1.0)
edit_in_range n (edit.DropTuple q) tokens is = let r =
    spelled_in_range (edit_text edit_words.DropTuple) (edit_form n edit_words.DropTuple) (q, tt) tokens is in as_place r.0
edit_in_range n (edit.Swap q) tokens is = let r = spelled_in_range (edit_text edit_words.Swap) (edit_form n edit_words.Swap) (
  q,
  tt,
) tokens is in as_place r.0
edit_in_range n (edit.Ltag q) tokens is = let r = spelled_in_range (edit_text edit_words.Ltag) (edit_form n edit_words.Ltag) (
  q,
  tt,
) tokens is in as_place r.0
edit_in_range n (edit.Proof k) tokens is = let r = spelled_in_range (edit_text edit_words.Proof) (edit_form n edit_words.Proof) (
  k,
  tt,
) tokens is in as_client r.0
edit_in_range n (edit.Noproof k) tokens is = let r = spelled_in_range (edit_text edit_words.Noproof) (edit_form n edit_words.Noproof) (
  k,
  tt,
) tokens is in as_client r.0
edit_in_range n (edit.Jv k t) tokens is = let r = spelled_in_range (edit_text edit_words.Jv) (edit_form n edit_words.Jv) (
  k,
  (t, tt),
) tokens is in (as_client r.0, as_number r.1.0)
edit_in_range n edit.Jtag tokens is = tt
edit_in_range n (edit.T t) tokens is = let r = spelled_in_range (edit_text edit_words.T) (edit_form n edit_words.T) (t, tt) tokens is in
    as_number r.0
edit_in_range n (edit.Value v) tokens is = let r = spelled_in_range (edit_text edit_words.Value) (edit_form n edit_words.Value) (
  v,
  tt,
) tokens is in r.0
edit_in_range n edit.Dtag tokens is = tt
edit_in_range n edit.Unread tokens is = tt

editing_in_range : (n : ℕ) (name : List ℕ) (i : ℕ) (made : Edit) (tokens : List (List ℕ)) → SpellsEditing n name i made tokens
    → IsClient n i × IsEditFor n made
editing_in_range n name i made [] is = absurd is
editing_in_range n name i made (token ∷ []) is = absurd is
editing_in_range n name i made (token ∷ next ∷ tokens) is = (as_client (is.1.from, is.1.to), edit_in_range n made tokens is.2)

event_in_range : (n : ℕ) (x : Event) (tokens : List (List ℕ)) → SpellsEvent n x tokens → IsEventFor n x
event_in_range n (event.Write i v) tokens is = let r = spelled_in_range (event_text words.Write) (event_form n words.Write) (
  i,
  (v, tt),
) tokens is in (as_client r.0, r.1.0)
event_in_range n (event.Read i j) tokens is = let r = spelled_in_range (event_text words.Read) (event_form n words.Read) (
  i,
  (j, tt),
) tokens is in (as_client r.0, as_client r.1.0)
event_in_range n (event.Arrive i) tokens is = let r = spelled_in_range (event_text words.Arrive) (event_form n words.Arrive) (
  i,
  tt,
) tokens is in as_client r.0
event_in_range n (event.Reply i) tokens is = let r = spelled_in_range (event_text words.Reply) (event_form n words.Reply) (
  i,
  tt,
) tokens is in as_client r.0
event_in_range n (event.Tick i m) tokens is = let r = spelled_in_range (event_text words.Tick) (event_form n words.Tick) (
  i,
  (m, tt),
) tokens is in (as_client r.0, omega (arith, r.1.0.1))
event_in_range n (event.Peer i j k) tokens is = let r = spelled_in_range (event_text words.Peer) (event_form n words.Peer) (
  i,
  (j, (k, tt)),
) tokens is in (as_client r.0, as_client r.1.0, as_place r.1.1.0)
event_in_range n (event.Post j b) tokens is = let r = spelled_in_range (event_text words.Post) (event_form n words.Post) (
  j,
  (b, tt),
) tokens is in (as_client r.0, record { sized = r.1.0.0; bytes_each = r.1.0.1 })
event_in_range n (event.Branch a b) tokens is = let r = spelled_in_range (event_text words.Branch) (event_form n words.Branch) (
  a,
  (b, tt),
) tokens is in (r.0.1, r.1.0.1)
event_in_range n (event.Route i b) tokens is = let r = spelled_in_range (event_text words.Route) (event_form n words.Route) (
  i,
  (b, tt),
) tokens is in (as_client r.0, r.1.0.1)
event_in_range n (event.Echo i k b) tokens is = let r = spelled_in_range (event_text words.Echo) (event_form n words.Echo) (
  i,
  (k, (b, tt)),
) tokens is in (as_client r.0, as_place r.1.0, r.1.1.0.1)
event_in_range n (event.Again i k) tokens is = let r = spelled_in_range (event_text words.Again) (event_form n words.Again) (
  i,
  (k, tt),
) tokens is in (as_client r.0, as_place r.1.0)
event_in_range n (event.Edited i made) tokens is = editing_in_range n (event_text words.Edit) i made tokens is
event_in_range n (event.Forged i made) tokens is = editing_in_range n (event_text words.Forge) i made tokens is
event_in_range n (event.Raw i b) tokens is = let r = spelled_in_range (event_text words.Raw) (event_form n words.Raw) (
  i,
  (b, tt),
) tokens is in (as_client r.0, record { sized = r.1.0.0; bytes_each = r.1.0.1 })

events_in_range : (n : ℕ) (events : List Event) (texts : List (List ℕ)) → AreEventLines n events texts
    → AllByRecursion (IsEventFor n) events
events_in_range n [] texts are = tt
events_in_range n (x ∷ events) [] are = absurd are
events_in_range n (x ∷ events) (text ∷ texts) are = (event_in_range n x (tokens_of text) are.0, events_in_range n events texts are.1)

-- A line of the wire stands under format 2 alone.
format_known : (format wire : ℕ) (wires : List (List ℕ)) → SpellsWire format wire wires → IsFormat format wire
format_known format wire [] is = inl is
format_known format wire (line ∷ []) is = inr is.0
format_known format wire (line ∷ more ∷ wires) is = absurd is

-- A script that has a text is in range.
pub script_in_range : (input : List ℕ) (script : Script) → IsScriptText script input → IsScript script
script_in_range input script is = record {
  format_known = format_known script.format script.config.wire is.head_spelled.wires is.head_spelled.wire_spelled;
  config_in_range = head_in_range script_form script.format script.config is.head (lit≤ tt) is.head_spelled;
  events_in_range = events_in_range script.config.clients script.events is.lines is.events_spelled;
  few_events = is.few_events;
}
