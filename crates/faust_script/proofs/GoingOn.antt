-- Fronts of scripts: what was read can go on, and a refused line can't.
use Rattle.std.proofs.Common.{◌≡◌, ℕ, ◌+◌, ◌-◌, ◌≤◌, zero, suc, true, false, eqb, List, [], ◌∷◌, ◌++◌, length, take, drop, Result, Ok, Err, refl, sym, ap, ◌∙◌, subst, inl, inr, arith, lit≤, append_assoc, length-drop, add-one}
use Rattle.std.specs.Prelude.{codes}
use Rattle.std.specs.List.{AllByRecursion}
use Rattle.std.proofs.lemmas.Bool.{cases_Bool, cond-true, cond-false, false≢true}
use Rattle.faust_text.specs.declared.cause.Cause.{Cause}
use Rattle.faust_text.specs.declared.head.Head.TheVariants as heads
use Rattle.faust_text.specs.Fields.{field_at, ◌>>=◌}
use Rattle.faust_text.specs.Fields.{key as key_field}
use Rattle.faust_text.specs.declared.head.Formats.{Formats}
use Rattle.faust_text.specs.declared.head.HeadStep.TheVariants.{Next}
use Rattle.faust_text.specs.Heads.{config_of, head_at, key_form}
use Rattle.faust_text.specs.Lines.{AreInOrder, IsWithout, TextLine, ended_lines, ended_text, lines_of, whole_line}
use Rattle.faust_text.specs.Tokens.{tokens_of}
use Rattle.faust_text.specs.Spelled.{SpellsFields}
use Rattle.faust_text.proofs.FieldLaws.{bind_ok, field_spells, key_00}
use Rattle.faust_text.proofs.HeadLaws.{head_step}
use Rattle.faust_text.proofs.LineLaws.{has, lines_are, lines_of_ended_text}
use Rattle.faust_text.proofs.WholeLines.{ended_line, ended_lines-append, whole_line-only}
use Rattle.faust_script.specs.declared.error.ScriptError.{ScriptError}
use Rattle.faust_script.specs.declared.error.ScriptError.TheVariants as errors
use Rattle.faust_script.specs.declared.script.Script.{Script}
use Rattle.faust_script.specs.declared.stage.Stage.{Stage}
use Rattle.faust_script.specs.declared.stage.Stage.TheVariants as stages
use Rattle.faust_script.specs.Parsing.{Parses, Refusal, empty_script, lines_from, parsed, script_form, stage_at, start, text_at}
use Rattle.faust_script.specs.Refusals.{CanGoOn, IsAnswer, IsLineFault, IsRefused, IsRefusedThere, reached}
use Rattle.faust_script.proofs.RefusalLaws.{lines_from-behind, refused_there, refusals_are}
use Rattle.faust_script.proofs.LineSteps.{end_read, end_text, ended_found, step_found}
use Rattle.faust_script.proofs.ScriptLaws.{head_line_read, script_texts}
use Rattle.faust_script.proofs.InRangeLaws.{script_in_range}

-- The lines that end a script, from each stage on.
abbrev from_dummy : List (List ℕ)
from_dummy = codes "dummy 1" ∷ end_text ∷ []

abbrev from_delta : List (List ℕ)
from_delta = codes "delta 1" ∷ from_dummy

abbrev from_key : List (List ℕ)
from_key = codes "key 00" ∷ from_delta

abbrev from_clients : List (List ℕ)
from_clients = codes "clients 2" ∷ from_key

abbrev completion : Stage → List (List ℕ)
completion (stages.Head heads.Title) = codes "faust 1" ∷ from_clients
completion (stages.Head heads.Wire) = codes "wire 1" ∷ from_clients
completion (stages.Head (heads.Clients f)) = from_clients
completion (stages.Head (heads.Key f n)) = from_key
completion (stages.Head (heads.Delta f n key)) = from_delta
completion (stages.Head (heads.Dummy f n key delta)) = from_dummy
completion (stages.Events s) = end_text ∷ []
completion (stages.Ended s) = []

abbrev first_formats : Formats
first_formats = record { text = 1; wire = 1 }

title_read : text_at start (codes "faust 1") ≡ Ok (stages.Head (heads.Clients first_formats))
unfolding text_at head_at tokens_of field_at
title_read = refl

wire_read : text_at (stages.Head heads.Wire) (codes "wire 1") ≡ Ok (stages.Head (heads.Clients (record { text = 2; wire = 1 })))
unfolding text_at head_at tokens_of field_at
wire_read = refl

clients_read : (f : Formats) → text_at (stages.Head (heads.Clients f)) (codes "clients 2") ≡ Ok (stages.Head (heads.Key f 2))
unfolding text_at head_at tokens_of field_at
clients_read f = refl

key_spelled : SpellsFields key_form (tt, (0 ∷ [], tt)) (tokens_of (codes "key 00"))
unfolding tokens_of
key_spelled = (refl, ((field_spells key_field (codes "00") (0 ∷ [])).0 key_00, tt))

key_read : (f : Formats) (n : ℕ) → text_at (stages.Head (heads.Key f n)) (codes "key 00") ≡ Ok (stages.Head (heads.Delta f n (0 ∷ [])))
key_read f n = head_line_read (heads.Key f n) (Next (heads.Delta f n (0 ∷ []))) (codes "key 00")
    (head_step script_form (heads.Key f n) (tokens_of (codes "key 00")) (tt, (0 ∷ [], tt)) key_spelled)

delta_read : (f : Formats) (n : ℕ) (key : List ℕ)
    → text_at (stages.Head (heads.Delta f n key)) (codes "delta 1") ≡ Ok (stages.Head (heads.Dummy f n key 1))
unfolding text_at head_at tokens_of field_at
delta_read f n key = refl

dummy_read : (f : Formats) (n : ℕ) (key : List ℕ) (delta : ℕ)
    → text_at (stages.Head (heads.Dummy f n key delta)) (codes "dummy 1")
    ≡ Ok (stages.Events (empty_script f.text (config_of f n key delta 1)))
unfolding text_at head_at tokens_of field_at
dummy_read f n key delta = refl

record Completes (stage : Stage) (number : ℕ) : Type 0 where
  script : Script
  read : lines_from stage number (ended_lines (completion stage)) ≡ Ok script

-- One more line in front of a completion.
one_more : (stage next : Stage) (number : ℕ) (text : List ℕ) (texts : List (List ℕ)) (script : Script)
    → length text ≤ 40000 → text_at stage text ≡ Ok next → lines_from next (number + 1) (ended_lines texts) ≡ Ok script
    → lines_from stage number (ended_lines (text ∷ texts)) ≡ Ok script
one_more stage next number text texts script few read rest = step_found stage next number text (ended_lines texts) few read ∙ rest

from_events_on : (s : Script) (number : ℕ) → lines_from (stages.Events s) number (ended_lines (end_text ∷ [])) ≡ Ok s
from_events_on s number = one_more (stages.Events s) (stages.Ended s) number end_text [] s (lit≤ tt) (end_read s)
    (ended_found s (number + 1))

abbrev last_script : Formats → ℕ → List ℕ → ℕ → Script
last_script f n key delta = empty_script f.text (config_of f n key delta 1)

from_dummy_on : (f : Formats) (n : ℕ) (key : List ℕ) (delta number : ℕ)
    → lines_from (stages.Head (heads.Dummy f n key delta)) number (ended_lines from_dummy) ≡ Ok (last_script f n key delta)
from_dummy_on f n key delta number =
    one_more (stages.Head (heads.Dummy f n key delta)) (stages.Events (last_script f n key delta)) number (codes "dummy 1") (end_text ∷ [])
    (last_script f n key delta) (lit≤ tt) (dummy_read f n key delta) (from_events_on (last_script f n key delta) (number + 1))

from_delta_on : (f : Formats) (n : ℕ) (key : List ℕ) (number : ℕ)
    → lines_from (stages.Head (heads.Delta f n key)) number (ended_lines from_delta) ≡ Ok (last_script f n key 1)
from_delta_on f n key number =
    one_more (stages.Head (heads.Delta f n key)) (stages.Head (heads.Dummy f n key 1)) number (codes "delta 1") from_dummy
    (last_script f n key 1) (lit≤ tt) (delta_read f n key) (from_dummy_on f n key 1 (number + 1))

from_key_on : (f : Formats) (n number : ℕ)
    → lines_from (stages.Head (heads.Key f n)) number (ended_lines from_key) ≡ Ok (last_script f n (0 ∷ []) 1)
from_key_on f n number =
    one_more (stages.Head (heads.Key f n)) (stages.Head (heads.Delta f n (0 ∷ []))) number (codes "key 00") from_delta
    (last_script f n (0 ∷ []) 1) (lit≤ tt) (key_read f n) (from_delta_on f n (0 ∷ []) (number + 1))

from_clients_on : (f : Formats) (number : ℕ)
    → lines_from (stages.Head (heads.Clients f)) number (ended_lines from_clients) ≡ Ok (last_script f 2 (0 ∷ []) 1)
from_clients_on f number =
    one_more (stages.Head (heads.Clients f)) (stages.Head (heads.Key f 2)) number (codes "clients 2") from_key
    (last_script f 2 (0 ∷ []) 1) (lit≤ tt) (clients_read f) (from_key_on f 2 (number + 1))

completes : (stage : Stage) (number : ℕ) → Completes stage number
completes (stages.Head heads.Title) number = record {
  script = last_script first_formats 2 (0 ∷ []) 1;
  read = one_more start (stages.Head (heads.Clients first_formats)) number (codes "faust 1") from_clients
      (last_script first_formats 2 (0 ∷ []) 1)
      (lit≤ tt) title_read (from_clients_on first_formats (number + 1));
}
completes (stages.Head heads.Wire) number =
    let f : Formats = record { text = 2; wire = 1 } in
    record {
      script = last_script f 2 (0 ∷ []) 1;
      read = one_more (stages.Head heads.Wire) (stages.Head (heads.Clients f)) number (codes "wire 1") from_clients
          (last_script f 2 (0 ∷ []) 1)
          (lit≤ tt) wire_read (from_clients_on f (number + 1));
    }
completes (stages.Head (heads.Clients f)) number = record { script = last_script f 2 (0 ∷ []) 1; read = from_clients_on f number }
completes (stages.Head (heads.Key f n)) number = record { script = last_script f n (0 ∷ []) 1; read = from_key_on f n number }
completes (stages.Head (heads.Delta f n key)) number = record { script = last_script f n key 1; read = from_delta_on f n key number }
completes (stages.Head (heads.Dummy f n key delta)) number = record {
  script = last_script f n key delta;
  read = from_dummy_on f n key delta number;
}
completes (stages.Events s) number = record { script = s; read = from_events_on s number }
completes (stages.Ended s) number = record { script = s; read = ended_found s number }

-- None of these lines has a line feed.
without-test : (xs : List ℕ) → has 10 xs ≡ false → IsWithout 10 xs
without-test [] none = tt
without-test (x ∷ xs) none =
    elim (cases_Bool (eqb x 10)) [
      | inl feed ↦ absurd (false≢true (sym none ∙ cond-true (eqb x 10) true (has 10 xs) feed))
      | inr other ↦ (other, without-test xs (sym (cond-false (eqb x 10) true (has 10 xs) other) ∙ none))
    ]

without_end : AllByRecursion (IsWithout 10) (end_text ∷ [])
without_end = (without-test end_text refl, tt)

without_dummy : AllByRecursion (IsWithout 10) from_dummy
without_dummy = (without-test (codes "dummy 1") refl, without_end)

without_delta : AllByRecursion (IsWithout 10) from_delta
without_delta = (without-test (codes "delta 1") refl, without_dummy)

without_key : AllByRecursion (IsWithout 10) from_key
without_key = (without-test (codes "key 00") refl, without_delta)

without_clients : AllByRecursion (IsWithout 10) from_clients
without_clients = (without-test (codes "clients 2") refl, without_key)

completion-without : (stage : Stage) → AllByRecursion (IsWithout 10) (completion stage)
completion-without (stages.Head heads.Title) = (without-test (codes "faust 1") refl, without_clients)
completion-without (stages.Head heads.Wire) = (without-test (codes "wire 1") refl, without_clients)
completion-without (stages.Head (heads.Clients f)) = without_clients
completion-without (stages.Head (heads.Key f n)) = without_key
completion-without (stages.Head (heads.Delta f n key)) = without_delta
completion-without (stages.Head (heads.Dummy f n key delta)) = without_dummy
completion-without (stages.Events s) = without_end
completion-without (stages.Ended s) = tt

-- Lines that are read are whole, and have no line feed in them.
abbrev HasNoFeed : TextLine → Type 0
HasNoFeed line = IsWithout 10 line.bytes

in_order-without : (lines : List TextLine) → AreInOrder lines → AllByRecursion HasNoFeed lines
in_order-without [] ordered = tt
in_order-without (line ∷ []) ordered = (ordered.0, tt)
in_order-without (line ∷ next ∷ lines) ordered = (ordered.0, in_order-without (next ∷ lines) ordered.2)

take-without : (n : ℕ) (lines : List TextLine) → AllByRecursion HasNoFeed lines → AllByRecursion HasNoFeed (take n lines)
take-without zero lines none = tt
take-without (suc n) [] none = tt
take-without (suc n) (line ∷ lines) none = (none.0, take-without n lines none.1)

record Texts (lines : List TextLine) : Type 0 where
  texts : List (List ℕ)
  are : lines ≡ ended_lines texts
  without : AllByRecursion (IsWithout 10) texts

texts_read : (lines : List TextLine) (stage last : Stage) → AllByRecursion HasNoFeed lines → reached stage lines ≡ Ok last → Texts lines
unfolding reached stage_at
texts_read [] stage last none found = record { texts = []; are = refl; without = tt }
texts_read (line ∷ lines) stage last none found =
    let next = bind_ok (whole_line line >>= text_at stage) (λ st. reached st lines) last found in
    let text = bind_ok (whole_line line) (text_at stage) next.0 next.1 in
    let whole = whole_line-only line text.0 text.1 in
    let more = texts_read lines next.0 last none.1 next.2 in
    record {
      texts = text.0 ∷ more.texts;
      are = ap (λ l. l ∷ lines) whole.0 ∙ ap (λ ls. ended_line text.0 ∷ ls) more.are;
      without = (subst HasNoFeed whole.0 none.0, more.without);
    }

without-append : (xs ys : List (List ℕ)) → AllByRecursion (IsWithout 10) xs → AllByRecursion (IsWithout 10) ys
    → AllByRecursion (IsWithout 10) (xs ++ ys)
without-append [] ys left right = right
without-append (x ∷ xs) ys left right = (left.0, without-append xs ys left.1 right)

parsed_by : (bytes : List ℕ) (front more : List TextLine) (last : Stage) (script : Script) → lines_of bytes ≡ front ++ more
    → reached start front ≡ Ok last → lines_from last (1 + length front) more ≡ Ok script → parsed bytes ≡ Ok script
unfolding parsed
parsed_by bytes front more last script are found rest = ap (lines_from start 1) are
    ∙ (lines_from-behind front more start last 1 found ∙ rest)

refused_by : (bytes : List ℕ) (front more : List TextLine) (last : Stage) (cause : Cause) → lines_of bytes ≡ front ++ more
    → reached start front ≡ Ok last → IsRefusedThere last more cause
    → parsed bytes ≡ Err (record { line = 1 + length front; cause = cause })
unfolding parsed
refused_by bytes front more last cause are found why = ap (lines_from start 1) are
    ∙ (lines_from-behind front more start last 1 found ∙ refused_there more last (1 + length front) cause why)

-- Lines of an input that are read begin the text of a script.
pub goes_on : (input : List ℕ) (count : ℕ) (last : Stage) → reached start (take count (lines_of input)) ≡ Ok last
    → CanGoOn (take count (lines_of input))
goes_on input count last found =
    let front = take count (lines_of input) in
    let ordered : AreInOrder (lines_of input) = ((lines_are input (lines_of input)).1 refl).in_order in
    let fronts = texts_read front start last (take-without count (lines_of input) (in_order-without (lines_of input) ordered)) found in
    let texts = fronts.texts ++ completion last in
    let bytes = ended_text texts in
    let end = completes last (1 + length front) in
    let lines : lines_of bytes ≡ front ++ ended_lines (completion last) =
    lines_of_ended_text texts (without-append fronts.texts (completion last) fronts.without (completion-without last))
    ∙ (ended_lines-append fronts.texts (completion last) ∙ ap (λ ls. ls ++ ended_lines (completion last)) (sym fronts.are)) in
    let read : parsed bytes ≡ Ok end.script = parsed_by bytes front (ended_lines (completion last)) last end.script lines found end.read in
    record {
      script = end.script;
      input = bytes;
      more = ended_lines (completion last);
      is_text = (script_texts bytes end.script).0 read;
      lines_are = lines;
    }

-- The lines up to a refused one don't.
take_next : (n : ℕ) (xs : List TextLine) (x : TextLine) (rest : List TextLine) → drop n xs ≡ x ∷ rest
    → take (suc n) xs ≡ take n xs ++ x ∷ []
take_next zero [] x rest found = absurd (cc)
take_next zero (y ∷ ys) x rest found = let same : y ≡ x = cc in ap (λ z. z ∷ []) same
take_next (suc n) [] x rest found = absurd (cc)
take_next (suc n) (y ∷ ys) x rest found = ap (λ zs. y ∷ zs) (take_next n ys x rest found)

refused_front : (input : List ℕ) (refusal : Refusal) (is : IsRefused input refusal) (behind : List TextLine)
    → drop is.before (lines_of input) ≡ behind → refusal.line ≤ length (lines_of input) → CanGoOn (take refusal.line (lines_of input)) → ⊥
refused_front input refusal is [] none within on =
    let size = length-drop is.before (lines_of input) in
    let empty = ap length none in
    absurd (omega (arith, is.line_is))
refused_front input refusal is (line ∷ behind) next within on =
    let lines = lines_of input in
    let front = take is.before lines in
    let count : refusal.line ≡ suc is.before = is.line_is ∙ add-one is.before in
    let up_to : take refusal.line lines ≡ front ++ line ∷ [] = ap (λ n. take n lines) count ∙ take_next is.before lines line behind next in
    let there : lines_of on.input ≡ front ++ (line ∷ on.more) = on.lines_are
    ∙ (ap (λ ls. ls ++ on.more) up_to ∙ append_assoc front (line ∷ []) on.more) in
    let why : IsLineFault is.stage line refusal.cause = subst (λ ls. IsRefusedThere is.stage ls refusal.cause) next is.why in
    let refused = refused_by on.input front (line ∷ on.more) is.stage refusal.cause there is.read_before why in
    let found = (script_texts on.input on.script).1 on.is_text in
    absurd (let e = sym found ∙ refused in cc)

pub stops : (input : List ℕ) (refusal : Refusal) → IsRefused input refusal → refusal.line ≤ length (lines_of input)
    → CanGoOn (take refusal.line (lines_of input)) → ⊥
stops input refusal is within on = refused_front input refusal is (drop is.before (lines_of input)) refl within on

pub refused_first : (input : List ℕ) (refusal : Refusal) → IsRefused input refusal → CanGoOn (take (refusal.line - 1) (lines_of input))
    × (refusal.line ≤ length (lines_of input) → CanGoOn (take refusal.line (lines_of input)) → ⊥)
refused_first input refusal is =
    let before : is.before ≡ refusal.line - 1 = omega (arith, is.line_is) in
    (subst (λ n. CanGoOn (take n (lines_of input))) before (goes_on input is.before is.stage is.read_before), stops input refusal is)

-- What parsing answers, in the reader's words.
pub answered : (input : List ℕ) (result : Result Script ScriptError) → Parses result (parsed input) → IsAnswer input result
answered input (Ok script) found = let is = (script_texts input script).0 found in (is, script_in_range input script is)
answered input (Err (errors.BadLine line cause)) found = (refusals_are input (record { line = line; cause = cause })).0 found
answered input (Err errors.OutOfMemory) found = tt
