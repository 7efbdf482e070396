-- Lines of entries, and the tokens that spell them.
use Rattle.std.proofs.Common.{◌≡◌, ℕ, true, List, [], ◌∷◌, Option, Some, None, Result, Ok, refl, sym, ap, ◌∙◌, subst, inl, inr}
use Rattle.std.specs.Prelude.{◌==◌}
use Rattle.std.specs.List.{find}
use Rattle.std.specs.Str.{bytes_eq}
use Rattle.std.proofs.lemmas.Bool.{cases_Bool, cond-true, cond-false}
use Rattle.std.proofs.lemmas.Slice.Eq.{bytes_eq-Decides}
use Rattle.faust_types.specs.declared.operation.Kind.{Kind}
use Rattle.faust_types.specs.declared.operation.Kind.TheVariants as kinds
use Rattle.faust_text.specs.declared.cause.Cause.{Cause}
use Rattle.faust_text.specs.Fields.{Field, Given, AllGiven, any_number, kind, field_at, fields_at, next_field, ◌>>=◌}
use Rattle.faust_text.specs.Numbers.{is_number}
use Rattle.faust_text.specs.Spelled.{SpellsField, SpellsFields}
use Rattle.faust_text.proofs.FieldLaws.{bind_ok, field_spells, fields_spell, ok_same}
use Rattle.faust_record.specs.declared.run_record.PushInput.TheVariants as inputs
use Rattle.faust_store.specs.declared.entry_line.EntryLine.{EntryLine}
use Rattle.faust_store.specs.declared.entry_line.EntryLine.TheVariants as lines
use Rattle.faust_store.specs.declared.word.EntryWord.{EntryWord}
use Rattle.faust_store.specs.declared.word.EntryWord.TheVariants as words
use Rattle.faust_store.specs.Forms.{arrival_by, begin_form, begun_by, bytes_form, client, client_form, entry_at, line_at, line_by, line_named, tick_form}
use Rattle.faust_store.specs.Records.{SpellsLine}
use Rattle.faust_store.specs.Words.{entry_word, entry_words, word_text}

-- The word that a token names is spelled so.
find_named : {W : Type 0} (text : W → List ℕ) (token : List ℕ) (ws : List W) (word : W)
    → find (λ w. bytes_eq (text w) token) ws ≡ Some word → token ≡ text word
find_named text token [] word found = absurd (cc)
find_named text token (w ∷ ws) word found =
    elim (cases_Bool (bytes_eq (text w) token)) [
      | inl same ↦
          let word_is : w ≡ word = let e =
          sym (cond-true (bytes_eq (text w) token) (Some w) (find (λ x. bytes_eq (text x) token) ws) same) ∙ found in cc in
          sym ((bytes_eq-Decides (text w) token).0 same) ∙ ap text word_is
      | inr other ↦ find_named text token ws word
          (sym (cond-false (bytes_eq (text w) token) (Some w) (find (λ x. bytes_eq (text x) token) ws) other) ∙ found)
    ]

entry_word-named : (token : List ℕ) (word : EntryWord) → entry_word token ≡ Some word → token ≡ word_text word
unfolding entry_word
entry_word-named token word found = find_named word_text token entry_words word found

entry_word-text : (word : EntryWord) → entry_word (word_text word) ≡ Some word
unfolding entry_word
entry_word-text words.Begin = refl
entry_word-text words.Arrive = refl
entry_word-text words.Reply = refl
entry_word-text words.Peer = refl
entry_word-text words.Tick = refl

line_by-name : (version n : ℕ) (word : EntryWord) (token : List ℕ) (tokens : List (List ℕ)) → token ≡ word_text word
    → line_at version n (token ∷ tokens) ≡ line_by version n word tokens
unfolding line_at
line_by-name version n word token tokens name =
    ap (λ t. line_named version n (entry_word t) tokens) name ∙ ap (λ o. line_named version n o tokens) (entry_word-text word)

-- What fields make has what their spelling gives.
made : {X : Type 0} (fields : List Field) (make : AllGiven fields → X) (tokens : List (List ℕ)) (x : X) (P : X → Type 0)
    → ((given : AllGiven fields) → SpellsFields fields given tokens → P (make given))
    → (let f : AllGiven fields → Result X Cause = λ g. Ok (make g) in (fields_at fields tokens >>= f) ≡ Ok x)
    → P x
made fields make tokens x P spelled found =
    let given = bind_ok (fields_at fields tokens) (λ g. Ok (make g)) x found in
    subst P (ok_same (make given.0) x given.2) (spelled given.0 ((fields_spell fields tokens given.0).0 given.1))

again : {X : Type 0} (fields : List Field) (make : AllGiven fields → X) (tokens : List (List ℕ)) (given : AllGiven fields)
    → SpellsFields fields given tokens
    → (let f : AllGiven fields → Result X Cause = λ g. Ok (make g) in (fields_at fields tokens >>= f) ≡ Ok (make given))
again fields make tokens given spelled = ap (λ r. r >>= (λ g. Ok (make g))) ((fields_spell fields tokens given).1 spelled)

-- One field.
next_found : (field : Field) (given : Given field) (token : List ℕ) (tokens : List (List ℕ)) → SpellsField field given token
    → next_field field (token ∷ tokens) ≡ Ok (given, tokens)
next_found field given token tokens is = ap (λ r. r >>= (λ g. Ok (g, tokens))) ((field_spells field token given).1 is)

pub record FirstToken (field : Field) (tokens : List (List ℕ)) (x : Given field × List (List ℕ)) : Type 0 where
  pub token : List ℕ
  pub tokens_are : tokens ≡ token ∷ x.1
  pub spelled : SpellsField field x.0 token

pub next_only : (field : Field) (tokens : List (List ℕ)) (x : Given field × List (List ℕ)) → next_field field tokens ≡ Ok x
    → FirstToken field tokens x
next_only field [] x found = absurd (cc)
next_only field (token ∷ tokens) x found =
    let given = bind_ok (field_at field token) (λ g. Ok (g, tokens)) x found in
    subst (λ (y : Given field × List (List ℕ)). FirstToken field (token ∷ tokens) y) (ok_same (given.0, tokens) x given.2)
    (record { token = token; tokens_are = refl; spelled = (field_spells field token given.0).0 given.1 })

-- What is spelled is read.
abbrev begun_behind : ℕ → (ℕ × List (List ℕ)) → Result EntryLine Cause
begun_behind n i = next_field kind i.1 >>= λ k. begun_by n i.0 k.0 k.1

begin_found : (version n i : ℕ) (k : Kind) (name a b : List ℕ) (tokens : List (List ℕ)) (line : EntryLine) → name ≡ word_text words.Begin
    → SpellsField (client n) i a → SpellsField kind k b → begun_by n i k tokens ≡ Ok line
    → line_at version n (name ∷ a ∷ b ∷ tokens) ≡ Ok line
unfolding line_by
begin_found version n i k name a b tokens line named client_is kind_is rest =
    line_by-name version n words.Begin name (a ∷ b ∷ tokens) named
    ∙ (ap (λ r. r >>= begun_behind n) (next_found (client n) i a (b ∷ tokens) client_is)
    ∙ (ap (λ r. r >>= (λ g. begun_by n i g.0 g.1)) (next_found kind k b tokens kind_is) ∙ rest))

abbrev alone_by : ℕ → List (List ℕ) → Result EntryLine Cause
alone_by n tokens = fields_at (client_form n) tokens >>= λ given. Ok (lines.Comes given.0 inputs.Arrive)

abbrev named_by : ℕ → List (List ℕ) → Result EntryLine Cause
named_by n tokens = fields_at (bytes_form n) tokens >>= λ given. Ok (lines.Arrives given.0 given.1.0)

pub line_found : (version n : ℕ) (line : EntryLine) (tokens : List (List ℕ)) → SpellsLine version n line tokens
    → line_at version n tokens ≡ Ok line
unfolding line_by begun_by
line_found version n (lines.Comes i (inputs.Write v)) [] spelled = absurd spelled
line_found version n (lines.Comes i (inputs.Write v)) (name ∷ []) spelled = absurd spelled.1
line_found version n (lines.Comes i (inputs.Write v)) (name ∷ a ∷ []) spelled = absurd spelled.1.1
line_found version n (lines.Comes i (inputs.Write v)) (name ∷ a ∷ b ∷ tokens) spelled =
    begin_found version n i kinds.Write name a b tokens (lines.Comes i (inputs.Write v)) spelled.0 spelled.1.0 spelled.1.1.0
    (again (begin_form n kinds.Write) (λ given. lines.Comes i (inputs.Write given.0)) tokens (v, tt) spelled.1.1.1)
line_found version n (lines.Comes i (inputs.Read j)) [] spelled = absurd spelled
line_found version n (lines.Comes i (inputs.Read j)) (name ∷ []) spelled = absurd spelled.1
line_found version n (lines.Comes i (inputs.Read j)) (name ∷ a ∷ []) spelled = absurd spelled.1.1
line_found version n (lines.Comes i (inputs.Read j)) (name ∷ a ∷ b ∷ tokens) spelled =
    begin_found version n i kinds.Read name a b tokens (lines.Comes i (inputs.Read j)) spelled.0 spelled.1.0 spelled.1.1.0
    (again (begin_form n kinds.Read) (λ given. lines.Comes i (inputs.Read given.0)) tokens (j, tt) spelled.1.1.1)
line_found version n (lines.Comes i (inputs.Reply b)) [] spelled = absurd spelled
line_found version n (lines.Comes i (inputs.Reply b)) (name ∷ tokens) spelled =
    line_by-name version n words.Reply name tokens spelled.0
    ∙ again (bytes_form n) (λ given. lines.Comes given.0 (inputs.Reply given.1.0)) tokens (i, (b, tt)) spelled.1
line_found version n (lines.Comes i (inputs.Peer b)) [] spelled = absurd spelled
line_found version n (lines.Comes i (inputs.Peer b)) (name ∷ tokens) spelled =
    line_by-name version n words.Peer name tokens spelled.0
    ∙ again (bytes_form n) (λ given. lines.Comes given.0 (inputs.Peer given.1.0)) tokens (i, (b, tt)) spelled.1
line_found version n (lines.Comes i (inputs.Tick m)) [] spelled = absurd spelled
line_found version n (lines.Comes i (inputs.Tick m)) (name ∷ tokens) spelled =
    line_by-name version n words.Tick name tokens spelled.0
    ∙ again (tick_form n) (λ given. lines.Comes given.0 (inputs.Tick given.1.0)) tokens (i, (m, tt)) spelled.1
line_found version n (lines.Comes i inputs.Arrive) [] spelled = absurd spelled.1
line_found version n (lines.Comes i inputs.Arrive) (name ∷ tokens) spelled =
    line_by-name version n words.Arrive name tokens spelled.1.0
    ∙ (cond-true (version == 1) (alone_by n tokens) (named_by n tokens) spelled.0
    ∙ again (client_form n) (λ given. lines.Comes given.0 inputs.Arrive) tokens (i, tt) spelled.1.1)
line_found version n (lines.Arrives i b) [] spelled = absurd spelled.1
line_found version n (lines.Arrives i b) (name ∷ tokens) spelled =
    line_by-name version n words.Arrive name tokens spelled.1.0
    ∙ (cond-false (version == 1) (alone_by n tokens) (named_by n tokens) spelled.0
    ∙ again (bytes_form n) (λ given. lines.Arrives given.0 given.1.0) tokens (i, (b, tt)) spelled.1.1)

-- What is read is spelled.
begun_only : (version n i : ℕ) (k : Kind) (name a b : List ℕ) (tokens : List (List ℕ)) (line : EntryLine) → name ≡ word_text words.Begin
    → SpellsField (client n) i a → SpellsField kind k b → begun_by n i k tokens ≡ Ok line
    → SpellsLine version n line (name ∷ a ∷ b ∷ tokens)
unfolding begun_by
begun_only version n i kinds.Write name a b tokens line named client_is kind_is found =
    made (begin_form n kinds.Write) (λ given. lines.Comes i (inputs.Write given.0)) tokens line
    (λ y. SpellsLine version n y (name ∷ a ∷ b ∷ tokens)) (λ given spelled. (named, (client_is, (kind_is, spelled)))) found
begun_only version n i kinds.Read name a b tokens line named client_is kind_is found =
    made (begin_form n kinds.Read) (λ given. lines.Comes i (inputs.Read given.0)) tokens line
    (λ y. SpellsLine version n y (name ∷ a ∷ b ∷ tokens)) (λ given spelled. (named, (client_is, (kind_is, spelled)))) found

begin_only : (version n : ℕ) (name : List ℕ) (tokens : List (List ℕ)) (line : EntryLine) → name ≡ word_text words.Begin
    → line_by version n words.Begin tokens ≡ Ok line → SpellsLine version n line (name ∷ tokens)
unfolding line_by
begin_only version n name tokens line named found =
    let i = bind_ok (next_field (client n) tokens) (begun_behind n) line found in
    let k = bind_ok (next_field kind i.0.1) (λ k. begun_by n i.0.0 k.0 k.1) line i.2 in
    let first = next_only (client n) tokens i.0 i.1 in
    let second = next_only kind i.0.1 k.0 k.1 in
    let are : tokens ≡ first.token ∷ second.token ∷ k.0.1 = first.tokens_are ∙ ap (λ ts. first.token ∷ ts) second.tokens_are in
    subst (λ (ts : List (List ℕ)). SpellsLine version n line (name ∷ ts)) (sym are)
    (begun_only version n i.0.0 k.0.0 name first.token second.token k.0.1 line named first.spelled second.spelled k.2)

arrival_only : (version n : ℕ) (name : List ℕ) (tokens : List (List ℕ)) (line : EntryLine) → name ≡ word_text words.Arrive
    → arrival_by version n tokens ≡ Ok line → SpellsLine version n line (name ∷ tokens)
arrival_only version n name tokens line named found =
    elim (cases_Bool (version == 1)) [
      | inl one ↦ made (client_form n) (λ given. lines.Comes given.0 inputs.Arrive) tokens line
          (λ y. SpellsLine version n y (name ∷ tokens))
          (λ given spelled. (one, (named, spelled))) (sym (cond-true (version == 1) (alone_by n tokens) (named_by n tokens) one) ∙ found)
      | inr two ↦ made (bytes_form n) (λ given. lines.Arrives given.0 given.1.0) tokens line (λ y. SpellsLine version n y (name ∷ tokens))
          (λ given spelled. (two, (named, spelled))) (sym (cond-false (version == 1) (alone_by n tokens) (named_by n tokens) two) ∙ found)
    ]

worded_only : (version n : ℕ) (word : EntryWord) (name : List ℕ) (tokens : List (List ℕ)) (line : EntryLine) → name ≡ word_text word
    → line_by version n word tokens ≡ Ok line → SpellsLine version n line (name ∷ tokens)
unfolding line_by
worded_only version n words.Begin name tokens line named found = begin_only version n name tokens line named found
worded_only version n words.Arrive name tokens line named found = arrival_only version n name tokens line named found
worded_only version n words.Reply name tokens line named found =
    made (bytes_form n) (λ given. lines.Comes given.0 (inputs.Reply given.1.0)) tokens line (λ y. SpellsLine version n y (name ∷ tokens))
    (λ given spelled. (named, spelled)) found
worded_only version n words.Peer name tokens line named found =
    made (bytes_form n) (λ given. lines.Comes given.0 (inputs.Peer given.1.0)) tokens line (λ y. SpellsLine version n y (name ∷ tokens))
    (λ given spelled. (named, spelled)) found
worded_only version n words.Tick name tokens line named found =
    made (tick_form n) (λ given. lines.Comes given.0 (inputs.Tick given.1.0)) tokens line (λ y. SpellsLine version n y (name ∷ tokens))
    (λ given spelled. (named, spelled)) found

named_only : (version n : ℕ) (word : Option EntryWord) (name : List ℕ) (tokens : List (List ℕ)) (line : EntryLine) → entry_word name ≡ word
    → line_named version n word tokens ≡ Ok line → SpellsLine version n line (name ∷ tokens)
named_only version n None name tokens line is found = absurd (cc)
named_only version n (Some word) name tokens line is found =
    worded_only version n word name tokens line (entry_word-named name word is) found

pub line_only : (version n : ℕ) (line : EntryLine) (tokens : List (List ℕ)) → line_at version n tokens ≡ Ok line
    → SpellsLine version n line tokens
unfolding line_at
line_only version n line [] found = absurd (cc)
line_only version n line (name ∷ tokens) found = named_only version n (entry_word name) name tokens line refl found

-- With the number in front.
pub entry_found : (version n : ℕ) (line : EntryLine) (token : List ℕ) (tokens : List (List ℕ)) → is_number token ≡ true
    → SpellsLine version n line tokens → entry_at version n (token ∷ tokens) ≡ Ok (token, line)
unfolding entry_at
entry_found version n line token tokens digits spelled =
    ap (λ r. r >>= (λ q. line_at version n q.1 >>= (λ l. Ok (q.0, l)))) (next_found any_number token token tokens (digits, refl))
    ∙ ap (λ r. r >>= (λ l. Ok (token, l))) (line_found version n line tokens spelled)

pub record EntryTokens (version n : ℕ) (tokens : List (List ℕ)) (given : List ℕ × EntryLine) : Type 0 where
  pub behind : List (List ℕ)
  pub tokens_are : tokens ≡ given.0 ∷ behind
  pub digits : SpellsField any_number given.0 given.0
  pub spelled : SpellsLine version n given.1 behind

pub entry_only : (version n : ℕ) (tokens : List (List ℕ)) (given : List ℕ × EntryLine) → entry_at version n tokens ≡ Ok given
    → EntryTokens version n tokens given
unfolding entry_at
entry_only version n tokens given found =
    let q = bind_ok (next_field any_number tokens) (λ q. line_at version n q.1 >>= (λ l. Ok (q.0, l))) given found in
    let line = bind_ok (line_at version n q.0.1) (λ l. Ok (q.0.0, l)) given q.2 in
    let first = next_only any_number tokens q.0 q.1 in
    subst (λ (g : List ℕ × EntryLine). EntryTokens version n tokens g) (ok_same (q.0.0, line.0) given line.2)
    (record {
      behind = q.0.1;
      tokens_are = first.tokens_are ∙ ap (λ t. t ∷ q.0.1) (sym first.spelled.1);
      digits = (ap is_number first.spelled.1 ∙ first.spelled.0, refl);
      spelled = line_only version n line.0 q.0.1 line.1;
    })
