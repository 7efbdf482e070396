-- The lines of a script, one by one.
use Rattle.std.proofs.Common.{◌≡◌, ℕ, ◌+◌, ◌<◌, ◌≤◌, cond, leb, List, [], ◌∷◌, ◌++◌, length, Result, Ok, Err, refl, sym, ap, ◌∙◌, subst, ◌⊎◌, inl, inr, arith, append_assoc, length-append}
use Rattle.std.specs.Prelude.{codes}
use Rattle.std.specs.List.{AllByRecursion}
use Rattle.std.specs.Str.{bytes_eq}
use Rattle.std.proofs.lemmas.List.{append-nil}
use Rattle.std.proofs.lemmas.Bool.{cond-false, leb-false, lt-leb, false_from_ne_true}
use Rattle.std.proofs.lemmas.Slice.Eq.{bytes_eq-Decides}
use Rattle.faust_text.specs.declared.cause.Cause.{Cause}
use Rattle.faust_text.specs.declared.cause.Cause.TheVariants as causes
use Rattle.faust_text.specs.Fields.{◌>>=◌}
use Rattle.faust_text.specs.Lines.{TextLine, ended_lines, whole_line}
use Rattle.faust_text.specs.Tokens.{tokens_of}
use Rattle.faust_text.proofs.Choices.{chosen}
use Rattle.faust_text.proofs.FieldLaws.{bind_ok, ok_same}
use Rattle.faust_text.proofs.WholeLines.{ended_line, whole_line-again, whole_line-only}
use Rattle.faust_script.specs.declared.event.Event.{Event}
use Rattle.faust_script.specs.declared.script.Script.{Script}
use Rattle.faust_script.specs.declared.stage.Stage.{Stage}
use Rattle.faust_script.specs.declared.stage.Stage.TheVariants as stages
use Rattle.faust_script.specs.Forms.{event_at}
use Rattle.faust_script.specs.Words.{event_word}
use Rattle.faust_script.specs.Parsing.{and_then_lines, finished, lines_from, stage_at, text_at, with_event}
use Rattle.faust_script.specs.Scripts.{AreEventLines}
use Rattle.faust_script.proofs.EventLaws.{event_spells}

-- One line of lines that make a script.
pub after_line : (number : ℕ) (lines : List TextLine) (r : Result Stage Cause) (script : Script)
    → and_then_lines number (λ next. lines_from next (number + 1) lines) r ≡ Ok script
    → (next : Stage) × (r ≡ Ok next) × (lines_from next (number + 1) lines ≡ Ok script)
after_line number lines (Ok next) script found = (next, refl, found)
after_line number lines (Err cause) script found = absurd (cc)

pub step_found : (stage next : Stage) (number : ℕ) (text : List ℕ) (lines : List TextLine) → length text ≤ 40000
    → text_at stage text ≡ Ok next → lines_from stage number (ended_line text ∷ lines) ≡ lines_from next (number + 1) lines
unfolding lines_from stage_at
step_found stage next number text lines few read =
    ap (λ r. and_then_lines number (λ s. lines_from s (number + 1) lines) (r >>= text_at stage)) (whole_line-again text few)
    ∙ ap (and_then_lines number (λ s. lines_from s (number + 1) lines)) read

-- Behind the end.
ended_only : (s : Script) (number : ℕ) (lines : List TextLine) (script : Script) → lines_from (stages.Ended s) number lines ≡ Ok script
    → (lines ≡ []) × (s ≡ script)
unfolding lines_from stage_at text_at
ended_only s number [] script found = (refl, cc)
ended_only s number (line ∷ lines) script found =
    let next = after_line number lines (stage_at (stages.Ended s) line) script found in
    let text = bind_ok (whole_line line) (text_at (stages.Ended s)) next.0 next.1 in
    absurd (let e = text.2 in cc)

pub ended_found : (s : Script) (number : ℕ) → lines_from (stages.Ended s) number [] ≡ Ok s
unfolding lines_from
ended_found s number = refl

-- The lines behind the head.
abbrev pub end_text : List ℕ
end_text = codes "end"

abbrev pub FitsLine : List ℕ → Type 0
FitsLine text = length text ≤ 40000

pub record Rest (s : Script) (lines : List TextLine) (script : Script) : Type 0 where
  pub texts : List (List ℕ)
  pub events : List Event
  pub lines_are : lines ≡ ended_lines (texts ++ end_text ∷ [])
  pub fit : AllByRecursion FitsLine (texts ++ end_text ∷ [])
  pub spelled : AreEventLines s.config.clients events texts
  pub script_is : script ≡ record s { events = s.events ++ events }
  pub few : length (s.events ++ events) ≤ 20000

events_unfinished : (s script : Script) (number : ℕ) → finished (stages.Events s) number ≡ Ok script → ⊥
events_unfinished s script number found = absurd (cc)

-- What an event's line does.
pub record Item (s : Script) (text : List ℕ) (next : Stage) : Type 0 where
  pub event : Event
  pub room : length s.events < 20000
  pub spelled : event_at s.config.clients (tokens_of text) ≡ Ok event
  pub next_is : stages.Events (with_event s event) ≡ next

item_only : (s : Script) (text : List ℕ) (next : Stage) → text_at (stages.Events s) text ≡ Ok next
    → ((text ≡ end_text) × (stages.Ended s ≡ next)) ⊎ Item s text next
unfolding text_at
item_only s text next read =
    elim (chosen (bytes_eq text end_text) (Ok (stages.Ended s))
    (cond (leb 20000 (length s.events)) (Err causes.Events) (event_at s.config.clients (tokens_of text)
    >>= (λ event. Ok (stages.Events (with_event s event))))) (Ok next) read) [
      | inl end ↦ inl ((bytes_eq-Decides text end_text).0 end.0, ok_same (stages.Ended s) next end.1)
      | inr other ↦
          elim (chosen (leb 20000 (length s.events)) (Err causes.Events) (event_at s.config.clients (tokens_of text)
          >>= (λ event. Ok (stages.Events (with_event s event)))) (Ok next) other.1) [
            | inl full ↦ absurd (let e = full.1 in cc)
            | inr room ↦
                let event = bind_ok (event_at s.config.clients (tokens_of text))
                (λ event. Ok (stages.Events (with_event s event))) next room.1 in
                inr (record {
                  event = event.0;
                  room = leb-false _ _ room.0;
                  spelled = event.1;
                  next_is = ok_same (stages.Events (with_event s event.0)) next event.2;
                })
          ]
    ]

pub events_only : (s : Script) (number : ℕ) (lines : List TextLine) (script : Script) → length s.events ≤ 20000
    → lines_from (stages.Events s) number lines ≡ Ok script → Rest s lines script
unfolding lines_from stage_at
events_only s number [] script few found = absurd (events_unfinished s script number found)
events_only s number (line ∷ lines) script few found =
    let next = after_line number lines (stage_at (stages.Events s) line) script found in
    let text = bind_ok (whole_line line) (text_at (stages.Events s)) next.0 next.1 in
    let whole = whole_line-only line text.0 text.1 in
    elim (item_only s text.0 next.0 text.2) [
      | inl end ↦
          let last = ended_only s (number + 1) lines script (ap (λ st. lines_from st (number + 1) lines) end.1 ∙ next.2) in
          record {
            texts = [];
            events = [];
            lines_are = ap (λ l. l ∷ lines) (whole.0 ∙ ap ended_line end.0) ∙ ap (λ ls. ended_line end_text ∷ ls) last.0;
            fit = (subst FitsLine end.0 whole.1, tt);
            spelled = tt;
            script_is = sym last.1 ∙ ap (λ es. record s { events = es }) (sym (append-nil s.events));
            few = subst (λ (es : List Event). length es ≤ 20000) (sym (append-nil s.events)) few;
          }
      | inr item ↦
          let grown = with_event s item.event in
          let count : length grown.events ≤ 20000 = omega (arith, item.room, length-append s.events (item.event ∷ [])) in
          let more = events_only grown (number + 1) lines script count (ap (λ st. lines_from st (number + 1) lines) item.next_is
          ∙ next.2) in
          let joined : (s.events ++ item.event ∷ []) ++ more.events ≡ s.events ++ (item.event ∷ more.events) =
          append_assoc s.events (item.event ∷ []) more.events in
          record {
            texts = text.0 ∷ more.texts;
            events = item.event ∷ more.events;
            lines_are = ap (λ l. l ∷ lines) whole.0 ∙ ap (λ ls. ended_line text.0 ∷ ls) more.lines_are;
            fit = (whole.1, more.fit);
            spelled = ((event_spells s.config.clients item.event (tokens_of text.0)).0 item.spelled, more.spelled);
            script_is = more.script_is ∙ ap (λ es. record s { events = es }) joined;
            few = subst (λ (es : List Event). length es ≤ 20000) joined more.few;
          }
    ]

-- The text of an event isn't `end`, and there is room for it.
event_read : (s : Script) (event : Event) (text : List ℕ) → length s.events < 20000
    → event_at s.config.clients (tokens_of text) ≡ Ok event → (text ≡ end_text → ⊥)
    → text_at (stages.Events s) text ≡ Ok (stages.Events (with_event s event))
unfolding text_at
event_read s event text room spelled not_end =
    cond-false (bytes_eq text end_text) (Ok (stages.Ended s)) _
    (false_from_ne_true (bytes_eq text end_text) (λ same. not_end ((bytes_eq-Decides text end_text).0 same)))
    ∙ (cond-false (leb 20000 (length s.events)) (Err causes.Events) (event_at s.config.clients (tokens_of text)
    >>= (λ e. Ok (stages.Events (with_event s e)))) (lt-leb _ _ room)
    ∙ ap (λ r. r >>= (λ e. Ok (stages.Events (with_event s e)))) spelled)

pub end_read : (s : Script) → text_at (stages.Events s) end_text ≡ Ok (stages.Ended s)
unfolding text_at
end_read s = refl

-- The line `end` is no event.
end_is_no_event : (n : ℕ) → event_at n (tokens_of end_text) ≡ Err causes.Word
unfolding event_at event_word tokens_of
end_is_no_event n = refl

not_the_end : (n : ℕ) (event : Event) (text : List ℕ) → event_at n (tokens_of text) ≡ Ok event → text ≡ end_text → ⊥
not_the_end n event text spelled same = absurd (let e = sym (ap (λ t. event_at n (tokens_of t)) same ∙ end_is_no_event n) ∙ spelled in cc)

pub events_found : (s : Script) (number : ℕ) (events : List Event) (texts : List (List ℕ)) → AreEventLines s.config.clients events texts
    → AllByRecursion FitsLine (texts ++ end_text ∷ []) → length (s.events ++ events) ≤ 20000
    → lines_from (stages.Events s) number (ended_lines (texts ++ end_text ∷ [])) ≡ Ok (record s { events = s.events ++ events })
events_found s number [] [] spelled fit few =
    step_found (stages.Events s) (stages.Ended s) number end_text [] fit.0 (end_read s)
    ∙ (ended_found s (number + 1) ∙ ap (λ es. Ok (record s { events = es })) (sym (append-nil s.events)))
events_found s number [] (text ∷ texts) spelled fit few = absurd spelled
events_found s number (event ∷ events) [] spelled fit few = absurd spelled
events_found s number (event ∷ events) (text ∷ texts) spelled fit few =
    let grown = with_event s event in
    let joined : (s.events ++ event ∷ []) ++ events ≡ s.events ++ (event ∷ events) = append_assoc s.events (event ∷ []) events in
    let size = length-append s.events (event ∷ events) in
    let room : length s.events < 20000 = omega arith in
    let read = (event_spells s.config.clients event (tokens_of text)).1 spelled.0 in
    let few_grown : length ((s.events ++ event ∷ []) ++ events) ≤ 20000 = subst (λ (es : List Event). length es ≤ 20000) (sym joined) few in
    step_found (stages.Events s) (stages.Events grown) number text (ended_lines (texts ++ end_text ∷ [])) fit.0
    (event_read s event text room read (not_the_end s.config.clients event text read))
    ∙ (events_found grown (number + 1) events texts spelled.1 fit.1 few_grown ∙ ap (λ es. Ok (record s { events = es })) joined)
