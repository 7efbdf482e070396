-- Events and edits, and the tokens that spell them.
use Rattle.std.proofs.Common.{◌≡◌, ℕ, List, [], ◌∷◌, Option, Some, None, Result, Ok, refl, sym, ap, ◌∙◌, subst, ◌↔◌, inl, inr}
use Rattle.std.specs.List.{find}
use Rattle.std.specs.Str.{bytes_eq}
use Rattle.std.proofs.lemmas.Bool.{cases_Bool, cond-true, cond-false}
use Rattle.std.proofs.lemmas.Slice.Eq.{bytes_eq-Decides}
use Rattle.faust_text.specs.declared.cause.Cause.{Cause}
use Rattle.faust_text.specs.Fields.{Field, AllGiven, field_at, fields_at, next_field, ◌>>=◌}
use Rattle.faust_text.specs.Spelled.{SpellsField, SpellsFields}
use Rattle.faust_text.proofs.FieldLaws.{bind_ok, field_spells, fields_spell, ok_same}
use Rattle.faust_script.specs.declared.event.Event.{Event}
use Rattle.faust_script.specs.declared.event.Event.TheVariants as event
use Rattle.faust_script.specs.declared.edit.Edit.{Edit}
use Rattle.faust_script.specs.declared.edit.Edit.TheVariants as edit
use Rattle.faust_script.specs.declared.word.EventWord.{EventWord}
use Rattle.faust_script.specs.declared.word.EventWord.TheVariants as words
use Rattle.faust_script.specs.declared.word.EditWord.{EditWord}
use Rattle.faust_script.specs.declared.word.EditWord.TheVariants as edit_words_
use Rattle.faust_script.specs.Forms.{client, edit_form, event_form, edit_by, edit_named, edit_at, client_and_edit_at, event_by, event_named, event_at}
use Rattle.faust_script.specs.Scripts.{SpellsEdit, SpellsEditing, SpellsEvent}
use Rattle.faust_script.specs.Words.{event_text, event_words, event_word, edit_text, edit_words, edit_word}

-- The word that a token names is spelled so.
find_named : {W : Type 0} (text : W → List ℕ) (token : List ℕ) (words : List W) (word : W)
    → find (λ w. bytes_eq (text w) token) words ≡ Some word → token ≡ text word
find_named text token [] word found = absurd (cc)
find_named text token (w ∷ ws) word found =
    elim (cases_Bool (bytes_eq (text w) token)) [
      | inl same ↦
          let word_is : w ≡ word = let e =
          sym (cond-true (bytes_eq (text w) token) (Some w) (find (λ x. bytes_eq (text x) token) ws) same) ∙ found in cc in
          sym ((bytes_eq-Decides (text w) token).0 same) ∙ ap text word_is
      | inr other ↦ find_named text token ws word
          (sym (cond-false (bytes_eq (text w) token) (Some w) (find (λ x. bytes_eq (text x) token) ws) other) ∙ found)
    ]

event_word-named : (token : List ℕ) (word : EventWord) → event_word token ≡ Some word → token ≡ event_text word
unfolding event_word
event_word-named token word found = find_named event_text token event_words word found

edit_word-named : (token : List ℕ) (word : EditWord) → edit_word token ≡ Some word → token ≡ edit_text word
unfolding edit_word
edit_word-named token word found = find_named edit_text token edit_words word found

-- Each word is found by its spelling.
event_word-text : (word : EventWord) → event_word (event_text word) ≡ Some word
unfolding event_word
event_word-text words.Write = refl
event_word-text words.Read = refl
event_word-text words.Arrive = refl
event_word-text words.Reply = refl
event_word-text words.Tick = refl
event_word-text words.Peer = refl
event_word-text words.Post = refl
event_word-text words.Branch = refl
event_word-text words.Route = refl
event_word-text words.Echo = refl
event_word-text words.Again = refl
event_word-text words.Edit = refl
event_word-text words.Forge = refl
event_word-text words.Raw = refl

edit_word-text : (word : EditWord) → edit_word (edit_text word) ≡ Some word
unfolding edit_word
edit_word-text edit_words_.C = refl
edit_word-text edit_words_.V = refl
edit_word-text edit_words_.M = refl
edit_word-text edit_words_.Ctag = refl
edit_word-text edit_words_.Add = refl
edit_word-text edit_words_.DropTuple = refl
edit_word-text edit_words_.Swap = refl
edit_word-text edit_words_.Ltag = refl
edit_word-text edit_words_.Proof = refl
edit_word-text edit_words_.Noproof = refl
edit_word-text edit_words_.Jv = refl
edit_word-text edit_words_.Jtag = refl
edit_word-text edit_words_.T = refl
edit_word-text edit_words_.Value = refl
edit_word-text edit_words_.Dtag = refl
edit_word-text edit_words_.Unread = refl

event_by-name : (n : ℕ) (word : EventWord) (token : List ℕ) (tokens : List (List ℕ)) → token ≡ event_text word
    → event_at n (token ∷ tokens) ≡ event_by n word tokens
unfolding event_at
event_by-name n word token tokens name = ap (λ t. event_named n (event_word t) tokens) name
    ∙ ap (λ o. event_named n o tokens) (event_word-text word)

edit_by-name : (n : ℕ) (word : EditWord) (token : List ℕ) (tokens : List (List ℕ)) → token ≡ edit_text word
    → edit_at n (token ∷ tokens) ≡ edit_by n word tokens
unfolding edit_at
edit_by-name n word token tokens name = ap (λ t. edit_named n (edit_word t) tokens) name
    ∙ ap (λ o. edit_named n o tokens) (edit_word-text word)

-- What fields make has what their spelling gives.
made : {X : Type 0} (fields : List Field) (make : AllGiven fields → X) (tokens : List (List ℕ)) (x : X) (P : X → Type 0)
    → ((given : AllGiven fields) → SpellsFields fields given tokens → P (make given))
    → (let f : AllGiven fields → Result X Cause = λ given. Ok (make given) in (fields_at fields tokens >>= f) ≡ Ok x) → P x
made fields make tokens x P spelled found =
    let given = bind_ok (fields_at fields tokens) (λ g. Ok (make g)) x found in
    subst P (ok_same (make given.0) x given.2) (spelled given.0 ((fields_spell fields tokens given.0).0 given.1))

again : {X : Type 0} (fields : List Field) (make : AllGiven fields → X) (tokens : List (List ℕ)) (given : AllGiven fields)
    → SpellsFields fields given tokens → (let f : AllGiven fields → Result X Cause = λ g. Ok (make g) in
    (fields_at fields tokens >>= f) ≡ Ok (make given))
again fields make tokens given spelled = ap (λ r. r >>= (λ g. Ok (make g))) ((fields_spell fields tokens given).1 spelled)

-- Edits.
edit_only : (n : ℕ) (word : EditWord) (token : List ℕ) (tokens : List (List ℕ)) (x : Edit) → token ≡ edit_text word
    → edit_by n word tokens ≡ Ok x → SpellsEdit n x (token ∷ tokens)
unfolding edit_by
edit_only n edit_words_.C token tokens x name found =
    made (edit_form n edit_words_.C) (λ given. edit.C given.0) tokens x (λ y. SpellsEdit n y (token ∷ tokens))
    (λ given spelled. (name, spelled)) found
edit_only n edit_words_.V token tokens x name found =
    made (edit_form n edit_words_.V) (λ given. edit.V given.0 given.1.0) tokens x (λ y. SpellsEdit n y (token ∷ tokens))
    (λ given spelled. (name, spelled)) found
edit_only n edit_words_.M token tokens x name found =
    made (edit_form n edit_words_.M) (λ given. edit.M given.0) tokens x (λ y. SpellsEdit n y (token ∷ tokens))
    (λ given spelled. (name, spelled)) found
edit_only n edit_words_.Ctag token tokens x name found =
    made (edit_form n edit_words_.Ctag) (λ given. edit.Ctag) tokens x (λ y. SpellsEdit n y (token ∷ tokens))
    (λ given spelled. (name, spelled)) found
edit_only n edit_words_.Add token tokens x name found =
    made (edit_form n edit_words_.Add) (λ given. edit.Add given.0 given.1.0 given.1.1.0) tokens x (λ y. SpellsEdit n y (token ∷ tokens))
    (λ given spelled. (name, spelled)) found
edit_only n edit_words_.DropTuple token tokens x name found =
    made (edit_form n edit_words_.DropTuple) (λ given. edit.DropTuple given.0) tokens x (λ y. SpellsEdit n y (token ∷ tokens))
    (λ given spelled. (name, spelled)) found
edit_only n edit_words_.Swap token tokens x name found =
    made (edit_form n edit_words_.Swap) (λ given. edit.Swap given.0) tokens x (λ y. SpellsEdit n y (token ∷ tokens))
    (λ given spelled. (name, spelled)) found
edit_only n edit_words_.Ltag token tokens x name found =
    made (edit_form n edit_words_.Ltag) (λ given. edit.Ltag given.0) tokens x (λ y. SpellsEdit n y (token ∷ tokens))
    (λ given spelled. (name, spelled)) found
edit_only n edit_words_.Proof token tokens x name found =
    made (edit_form n edit_words_.Proof) (λ given. edit.Proof given.0) tokens x (λ y. SpellsEdit n y (token ∷ tokens))
    (λ given spelled. (name, spelled)) found
edit_only n edit_words_.Noproof token tokens x name found =
    made (edit_form n edit_words_.Noproof) (λ given. edit.Noproof given.0) tokens x (λ y. SpellsEdit n y (token ∷ tokens))
    (λ given spelled. (name, spelled)) found
edit_only n edit_words_.Jv token tokens x name found =
    made (edit_form n edit_words_.Jv) (λ given. edit.Jv given.0 given.1.0) tokens x (λ y. SpellsEdit n y (token ∷ tokens))
    (λ given spelled. (name, spelled)) found
edit_only n edit_words_.Jtag token tokens x name found =
    made (edit_form n edit_words_.Jtag) (λ given. edit.Jtag) tokens x (λ y. SpellsEdit n y (token ∷ tokens))
    (λ given spelled. (name, spelled)) found
edit_only n edit_words_.T token tokens x name found =
    made (edit_form n edit_words_.T) (λ given. edit.T given.0) tokens x (λ y. SpellsEdit n y (token ∷ tokens))
    (λ given spelled. (name, spelled)) found
edit_only n edit_words_.Value token tokens x name found =
    made (edit_form n edit_words_.Value) (λ given. edit.Value given.0) tokens x (λ y. SpellsEdit n y (token ∷ tokens))
    (λ given spelled. (name, spelled)) found
edit_only n edit_words_.Dtag token tokens x name found =
    made (edit_form n edit_words_.Dtag) (λ given. edit.Dtag) tokens x (λ y. SpellsEdit n y (token ∷ tokens))
    (λ given spelled. (name, spelled)) found
edit_only n edit_words_.Unread token tokens x name found =
    made (edit_form n edit_words_.Unread) (λ given. edit.Unread) tokens x (λ y. SpellsEdit n y (token ∷ tokens))
    (λ given spelled. (name, spelled)) found

edit_found : (n : ℕ) (x : Edit) (tokens : List (List ℕ)) → SpellsEdit n x tokens → edit_at n tokens ≡ Ok x
unfolding edit_by
edit_found n (edit.C k) [] spelled = absurd spelled
edit_found n (edit.C k) (token ∷ tokens) spelled = edit_by-name n edit_words_.C token tokens spelled.0
    ∙ again (edit_form n edit_words_.C) (λ given. edit.C given.0) tokens (k, tt) spelled.1
edit_found n (edit.V k t) [] spelled = absurd spelled
edit_found n (edit.V k t) (token ∷ tokens) spelled = edit_by-name n edit_words_.V token tokens spelled.0
    ∙ again (edit_form n edit_words_.V) (λ given. edit.V given.0 given.1.0) tokens (k, (t, tt)) spelled.1
edit_found n (edit.M k) [] spelled = absurd spelled
edit_found n (edit.M k) (token ∷ tokens) spelled = edit_by-name n edit_words_.M token tokens spelled.0
    ∙ again (edit_form n edit_words_.M) (λ given. edit.M given.0) tokens (k, tt) spelled.1
edit_found n edit.Ctag [] spelled = absurd spelled
edit_found n edit.Ctag (token ∷ tokens) spelled = edit_by-name n edit_words_.Ctag token tokens spelled.0
    ∙ again (edit_form n edit_words_.Ctag) (λ given. edit.Ctag) tokens tt spelled.1
edit_found n (edit.Add k kind_of j) [] spelled = absurd spelled
edit_found n (edit.Add k kind_of j) (token ∷ tokens) spelled = edit_by-name n edit_words_.Add token tokens spelled.0
    ∙ again (edit_form n edit_words_.Add) (λ given. edit.Add given.0 given.1.0 given.1.1.0) tokens (k, (kind_of, (j, tt))) spelled.1
edit_found n (edit.DropTuple q) [] spelled = absurd spelled
edit_found n (edit.DropTuple q) (token ∷ tokens) spelled = edit_by-name n edit_words_.DropTuple token tokens spelled.0
    ∙ again (edit_form n edit_words_.DropTuple) (λ given. edit.DropTuple given.0) tokens (q, tt) spelled.1
edit_found n (edit.Swap q) [] spelled = absurd spelled
edit_found n (edit.Swap q) (token ∷ tokens) spelled = edit_by-name n edit_words_.Swap token tokens spelled.0
    ∙ again (edit_form n edit_words_.Swap) (λ given. edit.Swap given.0) tokens (q, tt) spelled.1
edit_found n (edit.Ltag q) [] spelled = absurd spelled
edit_found n (edit.Ltag q) (token ∷ tokens) spelled = edit_by-name n edit_words_.Ltag token tokens spelled.0
    ∙ again (edit_form n edit_words_.Ltag) (λ given. edit.Ltag given.0) tokens (q, tt) spelled.1
edit_found n (edit.Proof k) [] spelled = absurd spelled
edit_found n (edit.Proof k) (token ∷ tokens) spelled = edit_by-name n edit_words_.Proof token tokens spelled.0
    ∙ again (edit_form n edit_words_.Proof) (λ given. edit.Proof given.0) tokens (k, tt) spelled.1
edit_found n (edit.Noproof k) [] spelled = absurd spelled
edit_found n (edit.Noproof k) (token ∷ tokens) spelled = edit_by-name n edit_words_.Noproof token tokens spelled.0
    ∙ again (edit_form n edit_words_.Noproof) (λ given. edit.Noproof given.0) tokens (k, tt) spelled.1
edit_found n (edit.Jv k t) [] spelled = absurd spelled
edit_found n (edit.Jv k t) (token ∷ tokens) spelled = edit_by-name n edit_words_.Jv token tokens spelled.0
    ∙ again (edit_form n edit_words_.Jv) (λ given. edit.Jv given.0 given.1.0) tokens (k, (t, tt)) spelled.1
edit_found n edit.Jtag [] spelled = absurd spelled
edit_found n edit.Jtag (token ∷ tokens) spelled = edit_by-name n edit_words_.Jtag token tokens spelled.0
    ∙ again (edit_form n edit_words_.Jtag) (λ given. edit.Jtag) tokens tt spelled.1
edit_found n (edit.T t) [] spelled = absurd spelled
edit_found n (edit.T t) (token ∷ tokens) spelled = edit_by-name n edit_words_.T token tokens spelled.0
    ∙ again (edit_form n edit_words_.T) (λ given. edit.T given.0) tokens (t, tt) spelled.1
edit_found n (edit.Value v) [] spelled = absurd spelled
edit_found n (edit.Value v) (token ∷ tokens) spelled = edit_by-name n edit_words_.Value token tokens spelled.0
    ∙ again (edit_form n edit_words_.Value) (λ given. edit.Value given.0) tokens (v, tt) spelled.1
edit_found n edit.Dtag [] spelled = absurd spelled
edit_found n edit.Dtag (token ∷ tokens) spelled = edit_by-name n edit_words_.Dtag token tokens spelled.0
    ∙ again (edit_form n edit_words_.Dtag) (λ given. edit.Dtag) tokens tt spelled.1
edit_found n edit.Unread [] spelled = absurd spelled
edit_found n edit.Unread (token ∷ tokens) spelled = edit_by-name n edit_words_.Unread token tokens spelled.0
    ∙ again (edit_form n edit_words_.Unread) (λ given. edit.Unread) tokens tt spelled.1

edit_named-only : (n : ℕ) (o : Option EditWord) (token : List ℕ) (tokens : List (List ℕ)) (x : Edit) → edit_word token ≡ o
    → edit_named n o tokens ≡ Ok x → SpellsEdit n x (token ∷ tokens)
edit_named-only n None token tokens x is found = absurd (cc)
edit_named-only n (Some word) token tokens x is found = edit_only n word token tokens x (edit_word-named token word is) found

edit_at-only : (n : ℕ) (x : Edit) (tokens : List (List ℕ)) → edit_at n tokens ≡ Ok x → SpellsEdit n x tokens
unfolding edit_at
edit_at-only n x [] found = absurd (cc)
edit_at-only n x (token ∷ tokens) found = edit_named-only n (edit_word token) token tokens x refl found

-- Tokens are read as the edit that they spell, and no others are.
pub edit_spells : (n : ℕ) (x : Edit) (tokens : List (List ℕ)) → (edit_at n tokens ≡ Ok x) ↔ SpellsEdit n x tokens
edit_spells n x tokens = (edit_at-only n x tokens, edit_found n x tokens)

-- A client, and then an edit.
editing_only : (n : ℕ) (name token : List ℕ) (tokens : List (List ℕ)) (x : ℕ × Edit) → token ≡ name → client_and_edit_at n tokens ≡ Ok x
    → SpellsEditing n name x.0 x.1 (token ∷ tokens)
editing_only n name token [] x named found = absurd (cc)
editing_only n name token (next ∷ tokens) x named found =
    let first = bind_ok (next_field (client n) (next ∷ tokens)) (λ given. edit_at n given.1 >>= (λ e. Ok (given.0, e))) x found in
    let field = bind_ok (field_at (client n) next) (λ g. Ok (g, tokens)) first.0 first.1 in
    let behind = bind_ok (edit_at n first.0.1) (λ e. Ok (first.0.0, e)) x first.2 in
    let pair : (field.0, tokens) ≡ first.0 = ok_same (field.0, tokens) first.0 field.2 in
    let same : (first.0.0, behind.0) ≡ x = ok_same (first.0.0, behind.0) x behind.2 in
    let i : field.0 ≡ x.0 = ap (λ p. p.0) pair ∙ ap (λ p. p.0) same in
    let rest : edit_at n tokens ≡ Ok x.1 = ap (λ p. edit_at n p.1) pair ∙ (behind.1 ∙ ap (λ p. Ok p.1) same) in
    (named, (field_spells (client n) next x.0).0 (field.1 ∙ ap Ok i), (edit_spells n x.1 tokens).0 rest)

editing_found : (n : ℕ) (i : ℕ) (e : Edit) (next : List ℕ) (tokens : List (List ℕ)) → SpellsField (client n) i next
    → SpellsEdit n e tokens → client_and_edit_at n (next ∷ tokens) ≡ Ok (i, e)
editing_found n i e next tokens client_is edit_is =
    let first : next_field (client n) (next ∷ tokens) ≡ Ok (i, tokens) =
    ap (λ r. r >>= (λ g. Ok (g, tokens))) ((field_spells (client n) next i).1 client_is) in
    ap (λ r. r >>= (λ given. edit_at n given.1 >>= (λ x. Ok (given.0, x)))) first
    ∙ ap (λ r. r >>= (λ x. Ok (i, x))) ((edit_spells n e tokens).1 edit_is)

-- Events.
event_only : (n : ℕ) (word : EventWord) (token : List ℕ) (tokens : List (List ℕ)) (x : Event) → token ≡ event_text word
    → event_by n word tokens ≡ Ok x → SpellsEvent n x (token ∷ tokens)
unfolding event_by
event_only n words.Write token tokens x name found =
    made (event_form n words.Write) (λ given. event.Write given.0 given.1.0) tokens x (λ y. SpellsEvent n y (token ∷ tokens))
    (λ given spelled. (name, spelled)) found
event_only n words.Read token tokens x name found =
    made (event_form n words.Read) (λ given. event.Read given.0 given.1.0) tokens x (λ y. SpellsEvent n y (token ∷ tokens))
    (λ given spelled. (name, spelled)) found
event_only n words.Arrive token tokens x name found =
    made (event_form n words.Arrive) (λ given. event.Arrive given.0) tokens x (λ y. SpellsEvent n y (token ∷ tokens))
    (λ given spelled. (name, spelled)) found
event_only n words.Reply token tokens x name found =
    made (event_form n words.Reply) (λ given. event.Reply given.0) tokens x (λ y. SpellsEvent n y (token ∷ tokens))
    (λ given spelled. (name, spelled)) found
event_only n words.Tick token tokens x name found =
    made (event_form n words.Tick) (λ given. event.Tick given.0 given.1.0) tokens x (λ y. SpellsEvent n y (token ∷ tokens))
    (λ given spelled. (name, spelled)) found
event_only n words.Peer token tokens x name found =
    made (event_form n words.Peer) (λ given. event.Peer given.0 given.1.0 given.1.1.0) tokens x (λ y. SpellsEvent n y (token ∷ tokens))
    (λ given spelled. (name, spelled)) found
event_only n words.Post token tokens x name found =
    made (event_form n words.Post) (λ given. event.Post given.0 given.1.0) tokens x (λ y. SpellsEvent n y (token ∷ tokens))
    (λ given spelled. (name, spelled)) found
event_only n words.Branch token tokens x name found =
    made (event_form n words.Branch) (λ given. event.Branch given.0 given.1.0) tokens x (λ y. SpellsEvent n y (token ∷ tokens))
    (λ given spelled. (name, spelled)) found
event_only n words.Route token tokens x name found =
    made (event_form n words.Route) (λ given. event.Route given.0 given.1.0) tokens x (λ y. SpellsEvent n y (token ∷ tokens))
    (λ given spelled. (name, spelled)) found
event_only n words.Echo token tokens x name found =
    made (event_form n words.Echo) (λ given. event.Echo given.0 given.1.0 given.1.1.0) tokens x (λ y. SpellsEvent n y (token ∷ tokens))
    (λ given spelled. (name, spelled)) found
event_only n words.Again token tokens x name found =
    made (event_form n words.Again) (λ given. event.Again given.0 given.1.0) tokens x (λ y. SpellsEvent n y (token ∷ tokens))
    (λ given spelled. (name, spelled)) found
event_only n words.Edit token tokens x name found =
    let parts = bind_ok (client_and_edit_at n tokens) (λ given. Ok (event.Edited given.0 given.1)) x found in
    subst (λ y. SpellsEvent n y (token ∷ tokens)) (ok_same (event.Edited parts.0.0 parts.0.1) x parts.2)
    (editing_only n (event_text words.Edit) token tokens parts.0 name parts.1)
event_only n words.Forge token tokens x name found =
    let parts = bind_ok (client_and_edit_at n tokens) (λ given. Ok (event.Forged given.0 given.1)) x found in
    subst (λ y. SpellsEvent n y (token ∷ tokens)) (ok_same (event.Forged parts.0.0 parts.0.1) x parts.2)
    (editing_only n (event_text words.Forge) token tokens parts.0 name parts.1)
event_only n words.Raw token tokens x name found =
    made (event_form n words.Raw) (λ given. event.Raw given.0 given.1.0) tokens x (λ y. SpellsEvent n y (token ∷ tokens))
    (λ given spelled. (name, spelled)) found

event_found : (n : ℕ) (x : Event) (tokens : List (List ℕ)) → SpellsEvent n x tokens → event_at n tokens ≡ Ok x
unfolding event_by
event_found n (event.Write i v) [] spelled = absurd spelled
event_found n (event.Write i v) (token ∷ tokens) spelled = event_by-name n words.Write token tokens spelled.0
    ∙ again (event_form n words.Write) (λ given. event.Write given.0 given.1.0) tokens (i, (v, tt)) spelled.1
event_found n (event.Read i j) [] spelled = absurd spelled
event_found n (event.Read i j) (token ∷ tokens) spelled = event_by-name n words.Read token tokens spelled.0
    ∙ again (event_form n words.Read) (λ given. event.Read given.0 given.1.0) tokens (i, (j, tt)) spelled.1
event_found n (event.Arrive i) [] spelled = absurd spelled
event_found n (event.Arrive i) (token ∷ tokens) spelled = event_by-name n words.Arrive token tokens spelled.0
    ∙ again (event_form n words.Arrive) (λ given. event.Arrive given.0) tokens (i, tt) spelled.1
event_found n (event.Reply i) [] spelled = absurd spelled
event_found n (event.Reply i) (token ∷ tokens) spelled = event_by-name n words.Reply token tokens spelled.0
    ∙ again (event_form n words.Reply) (λ given. event.Reply given.0) tokens (i, tt) spelled.1
event_found n (event.Tick i m) [] spelled = absurd spelled
event_found n (event.Tick i m) (token ∷ tokens) spelled = event_by-name n words.Tick token tokens spelled.0
    ∙ again (event_form n words.Tick) (λ given. event.Tick given.0 given.1.0) tokens (i, (m, tt)) spelled.1
event_found n (event.Peer i j k) [] spelled = absurd spelled
event_found n (event.Peer i j k) (token ∷ tokens) spelled = event_by-name n words.Peer token tokens spelled.0
    ∙ again (event_form n words.Peer) (λ given. event.Peer given.0 given.1.0 given.1.1.0) tokens (i, (j, (k, tt))) spelled.1
event_found n (event.Post j b) [] spelled = absurd spelled
event_found n (event.Post j b) (token ∷ tokens) spelled = event_by-name n words.Post token tokens spelled.0
    ∙ again (event_form n words.Post) (λ given. event.Post given.0 given.1.0) tokens (j, (b, tt)) spelled.1
event_found n (event.Branch a b) [] spelled = absurd spelled
event_found n (event.Branch a b) (token ∷ tokens) spelled = event_by-name n words.Branch token tokens spelled.0
    ∙ again (event_form n words.Branch) (λ given. event.Branch given.0 given.1.0) tokens (a, (b, tt)) spelled.1
event_found n (event.Route i b) [] spelled = absurd spelled
event_found n (event.Route i b) (token ∷ tokens) spelled = event_by-name n words.Route token tokens spelled.0
    ∙ again (event_form n words.Route) (λ given. event.Route given.0 given.1.0) tokens (i, (b, tt)) spelled.1
event_found n (event.Echo i k b) [] spelled = absurd spelled
event_found n (event.Echo i k b) (token ∷ tokens) spelled = event_by-name n words.Echo token tokens spelled.0
    ∙ again (event_form n words.Echo) (λ given. event.Echo given.0 given.1.0 given.1.1.0) tokens (i, (k, (b, tt))) spelled.1
event_found n (event.Again i k) [] spelled = absurd spelled
event_found n (event.Again i k) (token ∷ tokens) spelled = event_by-name n words.Again token tokens spelled.0
    ∙ again (event_form n words.Again) (λ given. event.Again given.0 given.1.0) tokens (i, (k, tt)) spelled.1
event_found n (event.Edited i e) [] spelled = absurd spelled
event_found n (event.Edited i e) (token ∷ []) spelled = absurd spelled
event_found n (event.Edited i e) (token ∷ next ∷ tokens) spelled =
    event_by-name n words.Edit token (next ∷ tokens) spelled.0
    ∙ ap (λ r. r >>= (λ given. Ok (event.Edited given.0 given.1))) (editing_found n i e next tokens spelled.1 spelled.2)
event_found n (event.Forged i e) [] spelled = absurd spelled
event_found n (event.Forged i e) (token ∷ []) spelled = absurd spelled
event_found n (event.Forged i e) (token ∷ next ∷ tokens) spelled =
    event_by-name n words.Forge token (next ∷ tokens) spelled.0
    ∙ ap (λ r. r >>= (λ given. Ok (event.Forged given.0 given.1))) (editing_found n i e next tokens spelled.1 spelled.2)
event_found n (event.Raw i b) [] spelled = absurd spelled
event_found n (event.Raw i b) (token ∷ tokens) spelled = event_by-name n words.Raw token tokens spelled.0
    ∙ again (event_form n words.Raw) (λ given. event.Raw given.0 given.1.0) tokens (i, (b, tt)) spelled.1

event_named-only : (n : ℕ) (o : Option EventWord) (token : List ℕ) (tokens : List (List ℕ)) (x : Event) → event_word token ≡ o
    → event_named n o tokens ≡ Ok x → SpellsEvent n x (token ∷ tokens)
event_named-only n None token tokens x is found = absurd (cc)
event_named-only n (Some word) token tokens x is found = event_only n word token tokens x (event_word-named token word is) found

event_at-only : (n : ℕ) (x : Event) (tokens : List (List ℕ)) → event_at n tokens ≡ Ok x → SpellsEvent n x tokens
unfolding event_at
event_at-only n x [] found = absurd (cc)
event_at-only n x (token ∷ tokens) found = event_named-only n (event_word token) token tokens x refl found

-- Tokens are read as the event that they spell, and no others are.
pub event_spells : (n : ℕ) (x : Event) (tokens : List (List ℕ)) → (event_at n tokens ≡ Ok x) ↔ SpellsEvent n x tokens
event_spells n x tokens = (event_at-only n x tokens, event_found n x tokens)
