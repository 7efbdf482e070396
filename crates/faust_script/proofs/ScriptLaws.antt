-- Scripts and the bytes that are their text.
use Rattle.std.proofs.Common.{◌≡◌, ℕ, ◌+◌, ◌≤◌, List, [], ◌∷◌, ◌++◌, length, Ok, refl, sym, ap, ◌∙◌, subst, ◌⊎◌, inl, inr, ◌↔◌, arith, lit≤}
use Rattle.std.specs.List.{AllByRecursion}
use Rattle.faust_types.specs.declared.config.Config.{Config}
use Rattle.faust_text.specs.declared.head.Head.{Head}
use Rattle.faust_text.specs.declared.head.Head.TheVariants as heads
use Rattle.faust_text.specs.declared.head.HeadStep.{HeadStep}
use Rattle.faust_text.specs.declared.head.HeadStep.TheVariants.{Next, Whole}
use Rattle.faust_text.specs.Fields.{◌>>=◌}
use Rattle.faust_text.specs.Heads.{head_at, head_read}
use Rattle.faust_text.specs.Lines.{IsWithout, TextLine, ended_lines, lines_of, whole_line}
use Rattle.faust_text.specs.Tokens.{tokens_of}
use Rattle.faust_text.proofs.FieldLaws.{bind_ok, ok_same}
use Rattle.faust_text.proofs.HeadLaws.{heads_are, nothing_behind}
use Rattle.faust_text.proofs.LineLaws.{ended_text-only, lines_of_ended_text}
use Rattle.faust_text.proofs.WholeLines.{ended_line, ended_lines-append, whole_line-only}
use Rattle.faust_script.specs.declared.script.Script.{Script}
use Rattle.faust_script.specs.declared.stage.Stage.TheVariants as stages
use Rattle.faust_script.specs.Parsing.{after_head, empty_script, finished, lines_from, parsed, script_form, stage_at, start, text_at}
use Rattle.faust_script.specs.Scripts.{IsLineText, IsScriptText}
use Rattle.faust_script.proofs.LineSteps.{FitsLine, after_line, end_text, events_found, events_only, step_found}

-- The lines of a head, and the lines of events behind it.
record HeadPart (head : Head) (lines : List TextLine) (script : Script) : Type 0 where
  texts : List (List ℕ)
  format : ℕ
  config : Config
  behind : List TextLine
  number_behind : ℕ
  lines_are : lines ≡ ended_lines texts ++ behind
  fit : AllByRecursion FitsLine texts
  read : head_read script_form (Next head) texts ≡ Ok (Whole format config)
  rest : lines_from (stages.Events (empty_script format config)) number_behind behind ≡ Ok script

step_cases : (step : HeadStep) → ((head : Head) × (step ≡ Next head)) ⊎ ((format : ℕ) × (config : Config) × (step ≡ Whole format config))
step_cases (Next head) = inl (head, refl)
step_cases (Whole format config) = inr (format, config, refl)

unfinished_head : (head : Head) (script : Script) (number : ℕ) → finished (stages.Head head) number ≡ Ok script → ⊥
unfinished_head head script number found = absurd (cc)

head_only : (lines : List TextLine) (head : Head) (number : ℕ) (script : Script)
    → lines_from (stages.Head head) number lines ≡ Ok script
    → HeadPart head lines script
unfolding lines_from stage_at text_at
head_only [] head number script found = absurd (unfinished_head head script number found)
head_only (line ∷ lines) head number script found =
    let next = after_line number lines (stage_at (stages.Head head) line) script found in
    let text = bind_ok (whole_line line) (text_at (stages.Head head)) next.0 next.1 in
    let whole = whole_line-only line text.0 text.1 in
    let step = bind_ok (head_at script_form head (tokens_of text.0)) (λ s. Ok (after_head s)) next.0 text.2 in
    let stage_is : after_head step.0 ≡ next.0 = ok_same (after_head step.0) next.0 step.2 in
    elim (step_cases step.0) [
      | inl more_head ↦
          let on : stages.Head more_head.0 ≡ next.0 = sym (ap after_head more_head.1) ∙ stage_is in
          let more = head_only lines more_head.0 (number + 1) script (ap (λ st. lines_from st (number + 1) lines) on ∙ next.2) in
          record {
            texts = text.0 ∷ more.texts;
            format = more.format;
            config = more.config;
            behind = more.behind;
            number_behind = more.number_behind;
            lines_are = ap (λ l. l ∷ lines) whole.0 ∙ ap (λ ls. ended_line text.0 ∷ ls) more.lines_are;
            fit = (whole.1, more.fit);
            read = ap (λ r. r >>= (λ s. head_read script_form s more.texts)) step.1
                ∙ (ap (λ s. head_read script_form s more.texts) more_head.1 ∙ more.read);
            rest = more.rest;
          }
      | inr made ↦
          let on : stages.Events (empty_script made.0 made.1) ≡ next.0 = sym (ap after_head made.2) ∙ stage_is in
          record {
            texts = text.0 ∷ [];
            format = made.0;
            config = made.1;
            behind = lines;
            number_behind = number + 1;
            lines_are = ap (λ l. l ∷ lines) whole.0;
            fit = (whole.1, tt);
            read = ap (λ r. r >>= (λ s. head_read script_form s [])) step.1 ∙ ap Ok made.2;
            rest = ap (λ st. lines_from st (number + 1) lines) on ∙ next.2;
          }
    ]

-- A line of a head is read as its tokens are.
pub head_line_read : (head : Head) (step : HeadStep) (text : List ℕ) → head_at script_form head (tokens_of text) ≡ Ok step
    → text_at (stages.Head head) text ≡ Ok (after_head step)
unfolding text_at
head_line_read head step text read = ap (λ r. r >>= (λ s. Ok (after_head s))) read

abbrev format_in : ℕ → HeadStep → ℕ
format_in default (Next head) = default
format_in default (Whole format config) = format

abbrev config_in : Config → HeadStep → Config
config_in default (Next head) = default
config_in default (Whole format config) = config

head_found : (texts : List (List ℕ)) (head : Head) (number format : ℕ) (config : Config) (behind : List TextLine)
    → AllByRecursion FitsLine texts
    → head_read script_form (Next head) texts ≡ Ok (Whole format config)
    → lines_from (stages.Head head) number (ended_lines texts ++ behind) ≡ lines_from (stages.Events (empty_script format config))
    (number + length texts) behind
head_found [] head number format config behind fit read = absurd (let e = ok_same (Next head) (Whole format config) read in cc)
head_found (text ∷ texts) head number format config behind fit read =
    let step = bind_ok (head_at script_form head (tokens_of text)) (λ s. head_read script_form s texts) (Whole format config) read in
    let first = step_found (stages.Head head) (after_head step.0) number text (ended_lines texts ++ behind) fit.0
    (head_line_read head step.0 text step.1) in
    elim (step_cases step.0) [
      | inl more ↦
          let rest = head_found texts more.0 (number + 1) format config behind fit.1 (ap (λ s. head_read script_form s texts) (sym more.1)
          ∙ step.2) in
          first ∙ (ap (λ s. lines_from (after_head s) (number + 1) (ended_lines texts ++ behind)) more.1
          ∙ (rest ∙ ap (λ q. lines_from (stages.Events (empty_script format config)) q behind) (omega arith)))
      | inr made ↦
          let last = nothing_behind script_form made.0 made.1 texts format config (ap (λ s. head_read script_form s texts) (sym made.2)
          ∙ step.2) in
          let same_format : made.0 ≡ format = ap (format_in made.0) last.1 in
          let same : made.1 ≡ config = ap (config_in made.1) last.1 in
          let none = ap length last.0 in
          first ∙ (ap (λ s. lines_from (after_head s) (number + 1) (ended_lines texts ++ behind)) made.2
          ∙ (ap (λ f. lines_from (stages.Events (empty_script f made.1)) (number + 1) (ended_lines texts ++ behind)) same_format
          ∙ (ap (λ c. lines_from (stages.Events (empty_script format c)) (number + 1) (ended_lines texts ++ behind)) same
          ∙ (ap (λ ts. lines_from (stages.Events (empty_script format config)) (number + 1) (ended_lines ts ++ behind)) last.0
          ∙ ap (λ q. lines_from (stages.Events (empty_script format config)) q behind) (omega (arith, none))))))
    ]

no_events_yet : (format : ℕ) (config : Config) → length (empty_script format config).events ≤ 20000
no_events_yet format config = lit≤ tt

-- Texts of lines.
line_texts : (texts : List (List ℕ)) → AllByRecursion (IsWithout 10) texts → AllByRecursion FitsLine texts → AllByRecursion IsLineText texts
line_texts [] none fit = tt
line_texts (text ∷ texts) none fit = (record { one_line = none.0; not_too_long = fit.0 }, line_texts texts none.1 fit.1)

without_feeds : (texts : List (List ℕ)) → AllByRecursion IsLineText texts → AllByRecursion (IsWithout 10) texts
without_feeds [] are = tt
without_feeds (text ∷ texts) are = (are.0.one_line, without_feeds texts are.1)

all_fit : (texts : List (List ℕ)) → AllByRecursion IsLineText texts → AllByRecursion FitsLine texts
all_fit [] are = tt
all_fit (text ∷ texts) are = (are.0.not_too_long, all_fit texts are.1)

fit_append : (xs ys : List (List ℕ)) → AllByRecursion FitsLine xs → AllByRecursion FitsLine ys → AllByRecursion FitsLine (xs ++ ys)
fit_append [] ys left right = right
fit_append (x ∷ xs) ys left right = (left.0, fit_append xs ys left.1 right)

fit_parts : (xs ys : List (List ℕ)) → AllByRecursion FitsLine (xs ++ ys) → AllByRecursion FitsLine xs × AllByRecursion FitsLine ys
fit_parts [] ys fit = (tt, fit)
fit_parts (x ∷ xs) ys fit = let more = fit_parts xs ys fit.1 in ((fit.0, more.0), more.1)

-- What is read is a script's text.
script_read : (input : List ℕ) (script : Script) → HeadPart heads.Title (lines_of input) script → IsScriptText script input
script_read input script h =
    let r = events_only (empty_script h.format h.config) h.number_behind h.behind script (no_events_yet h.format h.config) h.rest in
    let behind = r.texts ++ end_text ∷ [] in
    let texts = h.texts ++ behind in
    let lines : lines_of input ≡ ended_lines texts =
    h.lines_are ∙ (ap (λ ls. ended_lines h.texts ++ ls) r.lines_are ∙ sym (ended_lines-append h.texts behind)) in
    let whole = ended_text-only input texts lines in
    let read : IsScriptText (record (empty_script h.format h.config) { events = r.events }) input = record {
      head = h.texts;
      lines = r.texts;
      line_texts = line_texts texts whole.1 (fit_append h.texts behind h.fit r.fit);
      input_is = whole.0;
      head_spelled = (heads_are script_form h.texts h.format h.config).0 h.read;
      events_spelled = r.spelled;
      few_events = r.few;
    } in
    subst (λ (s : Script). IsScriptText s input) (sym r.script_is) read

script_only : (input : List ℕ) (script : Script) → parsed input ≡ Ok script → IsScriptText script input
unfolding parsed
script_only input script found = script_read input script (head_only (lines_of input) heads.Title 1 script found)

-- A script's text is read.
script_found : (input : List ℕ) (script : Script) → IsScriptText script input → parsed input ≡ Ok script
unfolding parsed
script_found input script is =
    let config = script.config in
    let behind = is.lines ++ end_text ∷ [] in
    let texts = is.head ++ behind in
    let fit = fit_parts is.head behind (all_fit texts is.line_texts) in
    let lines : lines_of input ≡ ended_lines is.head ++ ended_lines behind =
    ap lines_of is.input_is ∙ (lines_of_ended_text texts (without_feeds texts is.line_texts) ∙ ended_lines-append is.head behind) in
    let head = (heads_are script_form is.head script.format config).1 is.head_spelled in
    ap (lines_from start 1) lines
    ∙ (head_found is.head heads.Title 1 script.format config (ended_lines behind) fit.0 head
    ∙ events_found (empty_script script.format config) (1 + length is.head) script.events is.lines is.events_spelled fit.1 is.few_events)

-- Bytes are read as the script whose text they are, and no other bytes are read.
pub script_texts : (input : List ℕ) (script : Script) → (parsed input ≡ Ok script) ↔ IsScriptText script input
script_texts input script = (script_only input script, script_found input script)
