-- Refused lines and their causes.
use Rattle.std.proofs.Common.{◌≡◌, ℕ, ◌+◌, ◌≤◌, suc, cond, leb, List, [], ◌∷◌, ◌++◌, length, take, drop, Option, Some, None, Result, Ok, Err, refl, sym, ap, ◌∙◌, ◌↔◌, ◌⊎◌, inl, inr, arith}
use Rattle.std.specs.Prelude.{codes}
use Rattle.std.specs.Str.{bytes_eq}
use Rattle.std.proofs.lemmas.Bool.{cond-true, cond-false, leb-true, leb-false, le-leb, lt-leb, both_ways, false_from_ne_true}
use Rattle.std.proofs.lemmas.List.{length-take-le, take-append-drop}
use Rattle.std.proofs.lemmas.Slice.Eq.{bytes_eq-Decides}
use Rattle.faust_text.specs.declared.cause.Cause.{Cause}
use Rattle.faust_text.specs.declared.cause.Cause.TheVariants as causes
use Rattle.faust_text.specs.Fields.{Field, AllGiven, field_at, fields_at, ◌>>=◌}
use Rattle.faust_text.specs.Heads.{head_at}
use Rattle.faust_text.specs.Lines.{TextLine, lines_of}
use Rattle.faust_text.specs.Spelled.{IsFirstFault}
use Rattle.faust_text.specs.Tokens.{tokens_of}
use Rattle.faust_text.proofs.Choices.{chosen}
use Rattle.faust_text.proofs.FieldLaws.{bind_ok, bind_err, field_faults, field_spells, fields_fault, ok_same}
use Rattle.faust_text.proofs.HeadLaws.{head_faults}
use Rattle.faust_text.proofs.WholeLines.{whole_line-fault}
use Rattle.faust_script.specs.declared.event.Event.{Event}
use Rattle.faust_script.specs.declared.event.Event.TheVariants as event
use Rattle.faust_script.specs.declared.edit.Edit.{Edit}
use Rattle.faust_script.specs.declared.edit.Edit.TheVariants as edit
use Rattle.faust_script.specs.declared.script.Script.{Script}
use Rattle.faust_script.specs.declared.stage.Stage.{Stage}
use Rattle.faust_script.specs.declared.stage.Stage.TheVariants as stages
use Rattle.faust_script.specs.declared.word.EventWord.{EventWord}
use Rattle.faust_script.specs.declared.word.EventWord.TheVariants as words
use Rattle.faust_script.specs.declared.word.EditWord.{EditWord}
use Rattle.faust_script.specs.declared.word.EditWord.TheVariants as edit_words
use Rattle.faust_script.specs.Forms.{client, edit_form, event_form, edit_by, edit_named, edit_at, client_and_edit_at, event_by, event_named, event_at}
use Rattle.faust_script.specs.Parsing.{Refusal, after_head, and_then_lines, finished, lines_from, parsed, script_form, stage_at, start, text_at, with_event}
use Rattle.faust_script.specs.Refusals.{IsEditFault, IsEditFaultOf, IsEditingFault, IsEventFault, IsEventFaultOf, IsTextFault, IsLineFault, IsNotEnded, IsRefusedThere, IsRefused, reached}
use Rattle.faust_script.specs.Words.{event_word, edit_word}

-- What is made of what a reading gives is refused as the reading is.
made_err : {A B : Type 0} (r : Result A Cause) (make : A → B) (cause : Cause)
    → (let f : A → Result B Cause = λ given. Ok (make given) in (r >>= f) ≡ Err cause) ↔ (r ≡ Err cause)
made_err (Ok x) make cause = (λ found. absurd (cc), λ is. absurd (cc))
made_err (Err e) make cause = (λ found. cc, λ is. cc)

faulty : {B : Type 0} (fields : List Field) (make : AllGiven fields → B) (tokens : List (List ℕ)) (cause : Cause)
    → (let f : AllGiven fields → Result B Cause = λ given. Ok (make given) in (fields_at fields tokens >>= f) ≡ Err cause)
    ↔ IsFirstFault fields tokens cause
faulty fields make tokens cause =
    let there = made_err (fields_at fields tokens) make cause in
    let law = fields_fault fields tokens cause in
    (λ found. law.0 (there.0 found), λ is. there.1 (law.1 is))

-- Edits.
edit_by-fault : (n : ℕ) (word : EditWord) (tokens : List (List ℕ)) (cause : Cause)
    → (edit_by n word tokens ≡ Err cause) ↔ IsEditFaultOf n (Some word) tokens cause
unfolding edit_by
edit_by-fault n edit_words.C tokens cause = faulty (edit_form n edit_words.C) (λ given. edit.C given.0) tokens cause
edit_by-fault n edit_words.V tokens cause = faulty (edit_form n edit_words.V) (λ given. edit.V given.0 given.1.0) tokens cause
edit_by-fault n edit_words.M tokens cause = faulty (edit_form n edit_words.M) (λ given. edit.M given.0) tokens cause
edit_by-fault n edit_words.Ctag tokens cause = faulty (edit_form n edit_words.Ctag) (λ given. edit.Ctag) tokens cause
edit_by-fault n edit_words.Add tokens cause =
    faulty (edit_form n edit_words.Add) (λ given. edit.Add given.0 given.1.0 given.1.1.0) tokens cause
edit_by-fault n edit_words.DropTuple tokens cause = faulty (edit_form n edit_words.DropTuple) (λ given. edit.DropTuple given.0) tokens cause
edit_by-fault n edit_words.Swap tokens cause = faulty (edit_form n edit_words.Swap) (λ given. edit.Swap given.0) tokens cause
edit_by-fault n edit_words.Ltag tokens cause = faulty (edit_form n edit_words.Ltag) (λ given. edit.Ltag given.0) tokens cause
edit_by-fault n edit_words.Proof tokens cause = faulty (edit_form n edit_words.Proof) (λ given. edit.Proof given.0) tokens cause
edit_by-fault n edit_words.Noproof tokens cause = faulty (edit_form n edit_words.Noproof) (λ given. edit.Noproof given.0) tokens cause
edit_by-fault n edit_words.Jv tokens cause = faulty (edit_form n edit_words.Jv) (λ given. edit.Jv given.0 given.1.0) tokens cause
edit_by-fault n edit_words.Jtag tokens cause = faulty (edit_form n edit_words.Jtag) (λ given. edit.Jtag) tokens cause
edit_by-fault n edit_words.T tokens cause = faulty (edit_form n edit_words.T) (λ given. edit.T given.0) tokens cause
edit_by-fault n edit_words.Value tokens cause = faulty (edit_form n edit_words.Value) (λ given. edit.Value given.0) tokens cause
edit_by-fault n edit_words.Dtag tokens cause = faulty (edit_form n edit_words.Dtag) (λ given. edit.Dtag) tokens cause
edit_by-fault n edit_words.Unread tokens cause = faulty (edit_form n edit_words.Unread) (λ given. edit.Unread) tokens cause

edit_named-fault : (n : ℕ) (o : Option EditWord) (tokens : List (List ℕ)) (cause : Cause)
    → (edit_named n o tokens ≡ Err cause) ↔ IsEditFaultOf n o tokens cause
edit_named-fault n None tokens cause = (λ found. cc, λ is. ap Err (sym is))
edit_named-fault n (Some word) tokens cause = edit_by-fault n word tokens cause

edit_at-fault : (n : ℕ) (tokens : List (List ℕ)) (cause : Cause) → (edit_at n tokens ≡ Err cause) ↔ IsEditFault n tokens cause
unfolding edit_at
edit_at-fault n [] cause = (λ found. cc, λ is. ap Err (sym is))
edit_at-fault n (token ∷ tokens) cause = edit_named-fault n (edit_word token) tokens cause

abbrev and_edit : ℕ → ℕ × List (List ℕ) → Result (ℕ × Edit) Cause
and_edit n given = edit_at n given.1 >>= λ e. Ok (given.0, e)

abbrev and_tokens : List (List ℕ) → ℕ → Result (ℕ × List (List ℕ)) Cause
and_tokens tokens i = Ok (i, tokens)

editing-fault : (n : ℕ) (tokens : List (List ℕ)) (cause : Cause) → (client_and_edit_at n tokens ≡ Err cause) ↔ IsEditingFault n tokens cause
editing-fault n [] cause = (λ found. cc, λ is. ap Err (sym is))
editing-fault n (token ∷ tokens) cause = (
  λ found. elim (bind_err (field_at (client n) token >>= and_tokens tokens) (and_edit n) cause found) [
    | inl there ↦ inl ((field_faults (client n) token cause).0 ((made_err (field_at (client n) token) (λ i. (i, tokens)) cause).0 there))
    | inr behind ↦
        let field = bind_ok (field_at (client n) token) (and_tokens tokens) behind.0 behind.1 in
        let same : (field.0, tokens) ≡ behind.0 = ok_same (field.0, tokens) behind.0 field.2 in
        let edit_err = (made_err (edit_at n behind.0.1) (λ e. (behind.0.0, e)) cause).0 behind.2 in
        inr (
          field.0,
          (field_spells (client n) token field.0).0 field.1,
          (edit_at-fault n tokens cause).0 (ap (λ p. edit_at n p.1) same ∙ edit_err),
        )
  ],
  λ is.
      let out : ((field_at (client n) token >>= and_tokens tokens) >>= and_edit n) ≡ Err cause = elim is [
        | inl there ↦ ap (λ r. (r >>= and_tokens tokens) >>= and_edit n) ((field_faults (client n) token cause).1 there)
        | inr behind ↦
            ap (λ r. (r >>= and_tokens tokens) >>= and_edit n) ((field_spells (client n) token behind.0).1 behind.1)
            ∙ (made_err (edit_at n tokens) (λ e. (behind.0, e)) cause).1 ((edit_at-fault n tokens cause).1 behind.2)
      ] in out,
)

-- Events.
event_by-fault : (n : ℕ) (word : EventWord) (tokens : List (List ℕ)) (cause : Cause)
    → (event_by n word tokens ≡ Err cause) ↔ IsEventFaultOf n (Some word) tokens cause
unfolding event_by
event_by-fault n words.Write tokens cause = faulty (event_form n words.Write) (λ given. event.Write given.0 given.1.0) tokens cause
event_by-fault n words.Read tokens cause = faulty (event_form n words.Read) (λ given. event.Read given.0 given.1.0) tokens cause
event_by-fault n words.Arrive tokens cause = faulty (event_form n words.Arrive) (λ given. event.Arrive given.0) tokens cause
event_by-fault n words.Reply tokens cause = faulty (event_form n words.Reply) (λ given. event.Reply given.0) tokens cause
event_by-fault n words.Tick tokens cause = faulty (event_form n words.Tick) (λ given. event.Tick given.0 given.1.0) tokens cause
event_by-fault n words.Peer tokens cause = faulty (event_form n words.Peer) (λ given. event.Peer given.0 given.1.0 given.1.1.0) tokens cause
event_by-fault n words.Post tokens cause = faulty (event_form n words.Post) (λ given. event.Post given.0 given.1.0) tokens cause
event_by-fault n words.Branch tokens cause = faulty (event_form n words.Branch) (λ given. event.Branch given.0 given.1.0) tokens cause
event_by-fault n words.Route tokens cause = faulty (event_form n words.Route) (λ given. event.Route given.0 given.1.0) tokens cause
event_by-fault n words.Echo tokens cause = faulty (event_form n words.Echo) (λ given. event.Echo given.0 given.1.0 given.1.1.0) tokens cause
event_by-fault n words.Again tokens cause = faulty (event_form n words.Again) (λ given. event.Again given.0 given.1.0) tokens cause
event_by-fault n words.Edit tokens cause =
    let there = made_err (client_and_edit_at n tokens) (λ given. event.Edited given.0 given.1) cause in
    let law = editing-fault n tokens cause in
    (λ found. law.0 (there.0 found), λ is. there.1 (law.1 is))
event_by-fault n words.Forge tokens cause =
    let there = made_err (client_and_edit_at n tokens) (λ given. event.Forged given.0 given.1) cause in
    let law = editing-fault n tokens cause in
    (λ found. law.0 (there.0 found), λ is. there.1 (law.1 is))
event_by-fault n words.Raw tokens cause = faulty (event_form n words.Raw) (λ given. event.Raw given.0 given.1.0) tokens cause

event_named-fault : (n : ℕ) (o : Option EventWord) (tokens : List (List ℕ)) (cause : Cause)
    → (event_named n o tokens ≡ Err cause) ↔ IsEventFaultOf n o tokens cause
event_named-fault n None tokens cause = (λ found. cc, λ is. ap Err (sym is))
event_named-fault n (Some word) tokens cause = event_by-fault n word tokens cause

event_at-fault : (n : ℕ) (tokens : List (List ℕ)) (cause : Cause) → (event_at n tokens ≡ Err cause) ↔ IsEventFault n tokens cause
unfolding event_at
event_at-fault n [] cause = (λ found. cc, λ is. ap Err (sym is))
event_at-fault n (token ∷ tokens) cause = event_named-fault n (event_word token) tokens cause

-- The text of a line.
abbrev grown : Script → Event → Result Stage Cause
grown s e = Ok (stages.Events (with_event s e))

events-fault : (s : Script) (text : List ℕ) (cause : Cause) → (text_at (stages.Events s) text ≡ Err cause)
    ↔ IsTextFault (stages.Events s) text cause
unfolding text_at
events-fault s text cause =
    let law = event_at-fault s.config.clients (tokens_of text) cause in
    let there = made_err (event_at s.config.clients (tokens_of text)) (λ e. stages.Events (with_event s e)) cause in (
      λ found. elim (chosen (bytes_eq text (codes "end")) (Ok (stages.Ended s))
          (cond (leb 20000 (length s.events)) (Err causes.Events) (event_at s.config.clients (tokens_of text) >>= grown s))
          (Err cause) found) [
            | inl end ↦ absurd (let e = end.1 in cc)
            | inr other ↦ (
              λ same. both_ways _ other.0 ((bytes_eq-Decides text (codes "end")).1 same),
              elim (chosen (leb 20000 (length s.events)) (Err causes.Events) (event_at s.config.clients (tokens_of text) >>= grown s)
                  (Err cause) other.1) [
                    | inl full ↦ inl (let e = full.1 in cc, leb-true _ _ full.0)
                    | inr room ↦ inr (leb-false _ _ room.0, law.0 (there.0 room.1))
                  ],
            )
          ],
      λ is.
          let behind : cond (leb 20000 (length s.events)) (Err causes.Events) (event_at s.config.clients (tokens_of text) >>= grown s)
          ≡ Err cause = elim is.1 [
            | inl full ↦ cond-true (leb 20000 (length s.events)) (Err causes.Events) (event_at s.config.clients (tokens_of text)
                >>= grown s) (le-leb _ _ full.1) ∙ ap Err (sym full.0)
            | inr room ↦ cond-false (leb 20000 (length s.events)) (Err causes.Events) (event_at s.config.clients (tokens_of text)
                >>= grown s) (lt-leb _ _ room.0) ∙ there.1 (law.1 room.1)
          ] in
          cond-false (bytes_eq text (codes "end")) (Ok (stages.Ended s))
          (cond (leb 20000 (length s.events)) (Err causes.Events) (event_at s.config.clients (tokens_of text) >>= grown s))
          (false_from_ne_true (bytes_eq text (codes "end")) (λ same. is.0 ((bytes_eq-Decides text (codes "end")).0 same))) ∙ behind,
    )

text-fault : (stage : Stage) (text : List ℕ) (cause : Cause) → (text_at stage text ≡ Err cause) ↔ IsTextFault stage text cause
unfolding text_at
text-fault (stages.Head head) text cause =
    let there = made_err (head_at script_form head (tokens_of text)) after_head cause in
    let law = head_faults script_form head (tokens_of text) cause in
    (λ found. law.0 (there.0 found), λ is. there.1 (law.1 is))
text-fault (stages.Events s) text cause = events-fault s text cause
text-fault (stages.Ended s) text cause = (λ found. cc, λ is. ap Err (sym is))

-- A line.
line-fault : (stage : Stage) (line : TextLine) (cause : Cause) → (stage_at stage line ≡ Err cause) ↔ IsLineFault stage line cause
unfolding stage_at
line-fault stage line cause = whole_line-fault line (text_at stage) cause (IsTextFault stage line.bytes cause)
    (text-fault stage line.bytes cause)

-- Lines that are read, and what comes behind them.
pub lines_from-behind : (front more : List TextLine) (stage last : Stage) (number : ℕ) → reached stage front ≡ Ok last
    → lines_from stage number (front ++ more) ≡ lines_from last (number + length front) more
unfolding lines_from reached
lines_from-behind [] more stage last number found = ap (λ st. lines_from st number more) (ok_same stage last found)
    ∙ ap (λ q. lines_from last q more) (omega arith)
lines_from-behind (line ∷ front) more stage last number found =
    let next = bind_ok (stage_at stage line) (λ st. reached st front) last found in
    ap (and_then_lines number (λ st. lines_from st (number + 1) (front ++ more))) next.1
    ∙ (lines_from-behind front more next.0 last (number + 1) next.2 ∙ ap (λ q. lines_from last q more) (omega arith))

-- A refusal of lines, taken apart: how many are read, and why the next isn't.
record Found (stage : Stage) (number : ℕ) (lines : List TextLine) (refusal : Refusal) : Type 0 where
  before : ℕ
  line_is : refusal.line ≡ number + before
  within : before ≤ length lines
  last : Stage
  read_before : reached stage (take before lines) ≡ Ok last
  why : IsRefusedThere last (drop before lines) refusal.cause

abbrev refusal_of : Refusal → Result Script Refusal → Refusal
refusal_of x (Ok script) = x
refusal_of x (Err refusal) = refusal

refusal_same : (x y : Refusal) → (let left : Result Script Refusal = Err x in left ≡ Err y) → x ≡ y
refusal_same x y same = ap (λ (r : Result Script Refusal). refusal_of x r) same

ended-fault : (stage : Stage) (number : ℕ) (refusal : Refusal) → finished stage number ≡ Err refusal
    → (refusal.line ≡ number) × (refusal.cause ≡ causes.CutOff) × IsNotEnded stage
ended-fault (stages.Head head) number refusal found = let same =
    refusal_same (record { line = number; cause = causes.CutOff }) refusal found in
    (sym (ap (λ r. r.line) same), sym (ap (λ r. r.cause) same), tt)
ended-fault (stages.Events s) number refusal found = let same =
    refusal_same (record { line = number; cause = causes.CutOff }) refusal found in
    (sym (ap (λ r. r.line) same), sym (ap (λ r. r.cause) same), tt)
ended-fault (stages.Ended s) number refusal found = absurd (cc)

not_ended : (stage : Stage) (number : ℕ) → IsNotEnded stage → finished stage number ≡ Err (record { line = number; cause = causes.CutOff })
not_ended (stages.Head head) number is = refl
not_ended (stages.Events s) number is = refl
not_ended (stages.Ended s) number is = absurd is

refused_after : (number : ℕ) (lines : List TextLine) (r : Result Stage Cause) (refusal : Refusal)
    → and_then_lines number (λ next. lines_from next (number + 1) lines) r ≡ Err refusal
    → ((next : Stage) × (r ≡ Ok next) × (lines_from next (number + 1) lines ≡ Err refusal))
    ⊎ ((refusal.line ≡ number) × (r ≡ Err refusal.cause))
refused_after number lines (Ok next) refusal found = inl (next, refl, found)
refused_after number lines (Err cause) refusal found = let same = refusal_same (record { line = number; cause = cause }) refusal found in
    inr (sym (ap (λ r. r.line) same), ap (λ r. Err r.cause) same)

refused_lines : (lines : List TextLine) (stage : Stage) (number : ℕ) (refusal : Refusal) → lines_from stage number lines ≡ Err refusal
    → Found stage number lines refusal
unfolding lines_from reached
refused_lines [] stage number refusal found =
    let ended = ended-fault stage number refusal found in
    record {
      before = 0;
      line_is = omega (arith, ended.0);
      within = omega arith;
      last = stage;
      read_before = refl;
      why = (ended.1, ended.2);
    }
refused_lines (line ∷ lines) stage number refusal found =
    elim (refused_after number lines (stage_at stage line) refusal found) [
      | inl next ↦
          let more = refused_lines lines next.0 (number + 1) refusal next.2 in
          record {
            before = suc more.before;
            line_is = omega (arith, more.line_is);
            within = omega (arith, more.within);
            last = more.last;
            read_before = ap (λ r. r >>= (λ st. reached st (take more.before lines))) next.1 ∙ more.read_before;
            why = more.why;
          }
      | inr here ↦ record {
        before = 0;
        line_is = omega (arith, here.0);
        within = omega arith;
        last = stage;
        read_before = refl;
        why = (line-fault stage line refusal.cause).0 here.1;
      }
    ]

pub refused_there : (lines : List TextLine) (stage : Stage) (number : ℕ) (cause : Cause) → IsRefusedThere stage lines cause
    → lines_from stage number lines ≡ Err (record { line = number; cause = cause })
unfolding lines_from
refused_there [] stage number cause why = not_ended stage number why.1 ∙ ap (λ c. Err (record { line = number; cause = c })) (sym why.0)
refused_there (line ∷ lines) stage number cause why =
    ap (and_then_lines number (λ st. lines_from st (number + 1) lines)) ((line-fault stage line cause).1 why)

-- The refused line of an input, and no other.
pub refusals_are : (input : List ℕ) (refusal : Refusal) → (parsed input ≡ Err refusal) ↔ IsRefused input refusal
unfolding parsed
refusals_are input refusal = (
  λ found.
      let is = refused_lines (lines_of input) start 1 refusal found in
      record {
        before = is.before;
        line_is = omega (arith, is.line_is);
        within = is.within;
        stage = is.last;
        read_before = is.read_before;
        why = is.why;
      },
  λ is.
      let lines = lines_of input in
      let front = take is.before lines in
      let behind = drop is.before lines in
      let count : length front ≡ is.before = length-take-le is.before lines is.within in
      let line : 1 + length front ≡ refusal.line = omega (arith, count, is.line_is) in
      ap (lines_from start 1) (sym (take-append-drop is.before lines))
      ∙ (lines_from-behind front behind start is.stage 1 is.read_before
      ∙ (refused_there behind is.stage (1 + length front) refusal.cause is.why
      ∙ ap (λ q. Err (record { line = q; cause = refusal.cause })) line)),
)
