-- Runs and the bytes that are their records.
use Rattle.std.proofs.Common.{◌≡◌, ℕ, ◌+◌, ◌≤◌, List, [], ◌∷◌, ◌++◌, length, Ok, refl, sym, ap, ◌∙◌, subst, ◌⊎◌, inl, inr, ◌↔◌, arith, lit≤}
use Rattle.std.specs.List.{AllByRecursion}
use Rattle.faust_types.specs.Bytes.{AreBytes}
use Rattle.faust_types.specs.declared.config.Config.{Config}
use Rattle.faust_text.specs.declared.head.Head.{Head}
use Rattle.faust_text.specs.declared.head.Head.TheVariants as heads
use Rattle.faust_text.specs.declared.head.HeadStep.{HeadStep}
use Rattle.faust_text.specs.declared.head.HeadStep.TheVariants.{Next, Whole}
use Rattle.faust_text.specs.Fields.{◌>>=◌}
use Rattle.faust_text.specs.Heads.{head_at, head_read, key_form}
use Rattle.faust_text.specs.Lines.{IsWithout, TextLine, ended_lines, lines_of, whole_line}
use Rattle.faust_text.specs.Tokens.{tokens_of}
use Rattle.faust_text.proofs.FieldLaws.{bind_ok, fields_in_range, ok_same}
use Rattle.faust_text.proofs.HeadLaws.{heads_are, nothing_behind}
use Rattle.faust_text.proofs.LineLaws.{ended_text-only, lines_of_ended_text}
use Rattle.faust_text.proofs.WholeLines.{ended_line, ended_lines-append, whole_line-only}
use Rattle.faust_record.specs.Runs.{IsRun, Run, first_run}
use Rattle.faust_record.proofs.Runs.{run-first}
use Rattle.faust_store.specs.declared.stage.Stage.TheVariants as stages
use Rattle.faust_store.specs.InRange.{IsHead}
use Rattle.faust_store.specs.Reading.{after_head, finished, lines_from, read, record_form, stage_at, start, text_at}
use Rattle.faust_store.specs.Records.{IsLineText, IsRecord, IsRecordText}
use Rattle.faust_store.proofs.LineSteps.{FitsLine, after_line, entries_found, entries_only, step_found}
use Rattle.faust_store.proofs.Ranges.{IsStep, IsWhole, head_kept}

-- The lines of a head, and the lines of entries behind it.
record HeadPart (head : Head) (lines : List TextLine) (run : Run) : Type 0 where
  texts : List (List ℕ)
  version : ℕ
  config : Config
  behind : List TextLine
  number_behind : ℕ
  lines_are : lines ≡ ended_lines texts ++ behind
  fit : AllByRecursion FitsLine texts
  read_texts : head_read record_form (Next head) texts ≡ Ok (Whole version config)
  whole : IsWhole version config
  rest : lines_from (stages.Entries version (first_run config)) number_behind behind ≡ Ok run

step_cases : (step : HeadStep) → ((head : Head) × (step ≡ Next head)) ⊎ ((version : ℕ) × (config : Config) × (step ≡ Whole version config))
step_cases (Next head) = inl (head, refl)
step_cases (Whole version config) = inr (version, config, refl)

unfinished_head : (head : Head) (run : Run) (number : ℕ) → finished (stages.Head head) number ≡ Ok run → ⊥
unfinished_head head run number found = absurd (cc)

head_only : (lines : List TextLine) (head : Head) (number : ℕ) (run : Run) → IsHead head
    → lines_from (stages.Head head) number lines ≡ Ok run
    → HeadPart head lines run
unfolding lines_from stage_at text_at
head_only [] head number run kept found = absurd (unfinished_head head run number found)
head_only (line ∷ lines) head number run kept found =
    let next = after_line number lines (stage_at (stages.Head head) line) run found in
    let text = bind_ok (whole_line line) (text_at (stages.Head head)) next.0 next.1 in
    let whole = whole_line-only line text.0 text.1 in
    let step = bind_ok (head_at record_form head (tokens_of text.0)) (λ s. Ok (after_head s)) next.0 text.2 in
    let stage_is : after_head step.0 ≡ next.0 = ok_same (after_head step.0) next.0 step.2 in
    let ranged : IsStep step.0 = head_kept head (tokens_of text.0) step.0 kept step.1 in
    elim (step_cases step.0) [
      | inl more_head ↦
          let on : stages.Head more_head.0 ≡ next.0 = sym (ap after_head more_head.1) ∙ stage_is in
          let more = head_only lines more_head.0 (number + 1) run (subst IsStep more_head.1 ranged)
          (ap (λ st. lines_from st (number + 1) lines) on ∙ next.2) in
          record {
            texts = text.0 ∷ more.texts;
            version = more.version;
            config = more.config;
            behind = more.behind;
            number_behind = more.number_behind;
            lines_are = ap (λ l. l ∷ lines) whole.0 ∙ ap (λ ls. ended_line text.0 ∷ ls) more.lines_are;
            fit = (whole.1, more.fit);
            read_texts = ap (λ r. r >>= (λ s. head_read record_form s more.texts)) step.1
                ∙ (ap (λ s. head_read record_form s more.texts) more_head.1 ∙ more.read_texts);
            whole = more.whole;
            rest = more.rest;
          }
      | inr made ↦
          let on : stages.Entries made.0 (first_run made.1) ≡ next.0 = sym (ap after_head made.2) ∙ stage_is in
          record {
            texts = text.0 ∷ [];
            version = made.0;
            config = made.1;
            behind = lines;
            number_behind = number + 1;
            lines_are = ap (λ l. l ∷ lines) whole.0;
            fit = (whole.1, tt);
            read_texts = ap (λ r. r >>= (λ s. head_read record_form s [])) step.1 ∙ ap Ok made.2;
            whole = subst IsStep made.2 ranged;
            rest = ap (λ st. lines_from st (number + 1) lines) on ∙ next.2;
          }
    ]

-- A line of a head is read as its tokens are.
head_line_read : (head : Head) (step : HeadStep) (text : List ℕ) → head_at record_form head (tokens_of text) ≡ Ok step
    → text_at (stages.Head head) text ≡ Ok (after_head step)
unfolding text_at
head_line_read head step text found = ap (λ r. r >>= (λ s. Ok (after_head s))) found

abbrev version_in : ℕ → HeadStep → ℕ
version_in default (Next head) = default
version_in default (Whole version config) = version

abbrev config_in : Config → HeadStep → Config
config_in default (Next head) = default
config_in default (Whole version config) = config

head_found : (texts : List (List ℕ)) (head : Head) (number version : ℕ) (config : Config) (behind : List TextLine)
    → AllByRecursion FitsLine texts
    → head_read record_form (Next head) texts ≡ Ok (Whole version config)
    → lines_from (stages.Head head) number (ended_lines texts ++ behind) ≡ lines_from (stages.Entries version (first_run config))
    (number + length texts) behind
head_found [] head number version config behind fit found = absurd (let e = ok_same (Next head) (Whole version config) found in cc)
head_found (text ∷ texts) head number version config behind fit found =
    let step = bind_ok (head_at record_form head (tokens_of text)) (λ s. head_read record_form s texts) (Whole version config) found in
    let first = step_found (stages.Head head) (after_head step.0) number text (ended_lines texts ++ behind) fit.0
    (head_line_read head step.0 text step.1) in
    elim (step_cases step.0) [
      | inl more ↦
          let rest = head_found texts more.0 (number + 1) version config behind fit.1
          (ap (λ s. head_read record_form s texts) (sym more.1) ∙ step.2) in
          first ∙ (ap (λ s. lines_from (after_head s) (number + 1) (ended_lines texts ++ behind)) more.1
          ∙ (rest ∙ ap (λ q. lines_from (stages.Entries version (first_run config)) q behind) (omega arith)))
      | inr made ↦
          let last = nothing_behind record_form made.0 made.1 texts version config (ap (λ s. head_read record_form s texts) (sym made.2)
          ∙ step.2) in
          let same_version : made.0 ≡ version = ap (version_in made.0) last.1 in
          let same : made.1 ≡ config = ap (config_in made.1) last.1 in
          let none = ap length last.0 in
          first ∙ (ap (λ s. lines_from (after_head s) (number + 1) (ended_lines texts ++ behind)) made.2
          ∙ (ap (λ f. lines_from (stages.Entries f (first_run made.1)) (number + 1) (ended_lines texts ++ behind)) same_version
          ∙ (ap (λ c. lines_from (stages.Entries version (first_run c)) (number + 1) (ended_lines texts ++ behind)) same
          ∙ (ap (λ ts. lines_from (stages.Entries version (first_run config)) (number + 1) (ended_lines ts ++ behind)) last.0
          ∙ ap (λ q. lines_from (stages.Entries version (first_run config)) q behind) (omega (arith, none))))))
    ]

-- Texts of lines.
line_texts : (texts : List (List ℕ)) → AllByRecursion (IsWithout 10) texts → AllByRecursion FitsLine texts → AllByRecursion IsLineText texts
line_texts [] none fit = tt
line_texts (text ∷ texts) none fit = (record { one_line = none.0; not_too_long = fit.0 }, line_texts texts none.1 fit.1)

pub without_feeds : (texts : List (List ℕ)) → AllByRecursion IsLineText texts → AllByRecursion (IsWithout 10) texts
without_feeds [] are = tt
without_feeds (text ∷ texts) are = (are.0.one_line, without_feeds texts are.1)

all_fit : (texts : List (List ℕ)) → AllByRecursion IsLineText texts → AllByRecursion FitsLine texts
all_fit [] are = tt
all_fit (text ∷ texts) are = (are.0.not_too_long, all_fit texts are.1)

fit_append : (xs ys : List (List ℕ)) → AllByRecursion FitsLine xs → AllByRecursion FitsLine ys → AllByRecursion FitsLine (xs ++ ys)
fit_append [] ys left right = right
fit_append (x ∷ xs) ys left right = (left.0, fit_append xs ys left.1 right)

fit_parts : (xs ys : List (List ℕ)) → AllByRecursion FitsLine (xs ++ ys) → AllByRecursion FitsLine xs × AllByRecursion FitsLine ys
fit_parts [] ys fit = (tt, fit)
fit_parts (x ∷ xs) ys fit = let more = fit_parts xs ys fit.1 in ((fit.0, more.0), more.1)

no_entries_yet : (config : Config) → length (first_run config).entries ≤ 20000
no_entries_yet config = lit≤ tt

-- What is read is a run's record.
record_read : (input : List ℕ) (run : Run) → HeadPart heads.Title (lines_of input) run → IsRecord run input
record_read input run h =
    let r = entries_only h.version (first_run h.config) h.number_behind h.behind run (run-first h.config h.whole.config_in_range)
    (no_entries_yet h.config) h.rest in
    let behind = r.texts ++ r.last ∷ [] in
    let texts = h.texts ++ behind in
    let lines : lines_of input ≡ ended_lines texts =
    h.lines_are ∙ (ap (λ ls. ended_lines h.texts ++ ls) r.lines_are ∙ sym (ended_lines-append h.texts behind)) in
    let whole = ended_text-only input texts lines in
    let made : Run = record { config = h.config; entries = r.entries } in
    let is_text : IsRecordText h.version made input = record {
      head = h.texts;
      lines = r.texts;
      last = r.last;
      line_texts = line_texts texts whole.1 (fit_append h.texts behind h.fit r.fit);
      input_is = whole.0;
      head_spelled = (heads_are record_form h.texts h.version h.config).0 h.read_texts;
      entries_spelled = r.spelled;
      last_spelled = r.ends;
      is_run = r.is_run;
      few_entries = r.few;
    } in
    (h.version, subst (λ (x : Run). IsRecordText h.version x input) r.made_is is_text)

pub record_only : (input : List ℕ) (run : Run) → read input ≡ Ok run → IsRecord run input
unfolding read
record_only input run found = record_read input run (head_only (lines_of input) heads.Title 1 run tt found)

-- A run's record is read.
pub record_found : (version : ℕ) (input : List ℕ) (run : Run) → IsRecordText version run input → read input ≡ Ok run
unfolding read
record_found version input run is =
    let config = run.config in
    let behind = is.lines ++ is.last ∷ [] in
    let texts = is.head ++ behind in
    let fit = fit_parts is.head behind (all_fit texts is.line_texts) in
    let lines : lines_of input ≡ ended_lines is.head ++ ended_lines behind =
    ap lines_of is.input_is ∙ (lines_of_ended_text texts (without_feeds texts is.line_texts) ∙ ended_lines-append is.head behind) in
    let head = (heads_are record_form is.head version config).1 is.head_spelled in
    ap (lines_from start 1) lines
    ∙ (head_found is.head heads.Title 1 version config (ended_lines behind) fit.0 head
    ∙ entries_found version (first_run config)
    (1 + length is.head) run.entries is.lines is.last is.is_run is.few_entries is.entries_spelled is.last_spelled fit.1)

-- Bytes are read as the run whose record they are, and no other bytes are read.
pub record_texts : (input : List ℕ) (run : Run) → (read input ≡ Ok run) ↔ IsRecord run input
record_texts input run = (record_only input run, λ is. record_found is.0 input run is.1)

-- What is read is a run.
pub run_read : (input : List ℕ) (run : Run) → read input ≡ Ok run → IsRun run.config run.entries
run_read input run found = (record_only input run found).1.is_run

pub few_read : (input : List ℕ) (run : Run) → read input ≡ Ok run → length run.entries ≤ 20000
few_read input run found = (record_only input run found).1.few_entries

pub key_read : (input : List ℕ) (run : Run) → read input ≡ Ok run → AreBytes run.config.key
key_read input run found =
    let head = (record_only input run found).1.head_spelled in
    (fields_in_range key_form (tt, (run.config.key, tt)) (tokens_of head.key_line) head.key_spelled).1.0.1
