-- The lines of a record, one by one.
use Rattle.std.proofs.Common.{◌≡◌, ℕ, ◌^◌, ◌+◌, ◌<◌, ◌≤◌, true, false, leb, List, [], ◌∷◌, ◌++◌, length, Option, Some, None, Result, Ok, Err, refl, sym, ap, ◌∙◌, subst, ◌⊎◌, inl, inr, arith, append_assoc, length-append}
use Rattle.std.specs.Prelude.{codes, ◌&&◌}
use Rattle.std.specs.Fmt.{decimal}
use Rattle.std.specs.List.{AllByRecursion}
use Rattle.std.specs.Str.{bytes_eq}
use Rattle.std.proofs.lemmas.List.{append-nil}
use Rattle.std.proofs.lemmas.Bool.{and_from, and_parts, both_ways, cond-false, cond-true, leb-false, lt-leb}
use Rattle.std.proofs.lemmas.Slice.Eq.{bytes_eq-Decides}
use Rattle.faust_text.specs.declared.cause.Cause.{Cause}
use Rattle.faust_text.specs.declared.cause.Cause.TheVariants as causes
use Rattle.faust_text.specs.Fields.{◌>>=◌}
use Rattle.faust_text.specs.Lines.{TextLine, ended_lines, whole_line}
use Rattle.faust_text.specs.Numbers.{is_number}
use Rattle.faust_text.specs.Spelled.{SpellsFields}
use Rattle.faust_text.specs.Tokens.{tokens_of}
use Rattle.faust_text.proofs.Choices.{chosen}
use Rattle.faust_text.proofs.FieldLaws.{bind_ok, ok_same}
use Rattle.faust_text.proofs.NumberLaws.{is_number-decimal}
use Rattle.faust_text.proofs.WholeLines.{ended_line, whole_line-again, whole_line-only}
use Rattle.faust_record.specs.Refusals.{recorded}
use Rattle.faust_record.specs.Runs.{IsRun, Run}
use Rattle.faust_record.specs.declared.entry.Entry.{Entry}
use Rattle.faust_record.proofs.Again.{entries_are_pushed}
use Rattle.faust_store.specs.declared.entry_line.EntryLine.{EntryLine}
use Rattle.faust_store.specs.declared.stage.Stage.{Stage}
use Rattle.faust_store.specs.declared.stage.Stage.TheVariants as stages
use Rattle.faust_store.specs.Forms.{end_number, entry_at}
use Rattle.faust_store.specs.Reading.{and_then_lines, ended_or, entry_taken, finished, is_number_of, lines_from, numbered, stage_at, taken, text_at}
use Rattle.faust_store.specs.Records.{AreEntryLines, IsEndLine, SpellsEntry, end_form}
use Rattle.faust_store.proofs.Arrivals.{entry_behind}
use Rattle.faust_store.proofs.Ranges.{entry_in_range}
use Rattle.faust_store.proofs.Spelling.{entry_found, entry_only}
use Rattle.faust_store.proofs.Taking.{said_as, same_bytes, spells_said, taken_by, taken_only}

-- One line of lines that make a record.
pub after_line : (number : ℕ) (lines : List TextLine) (r : Result Stage Cause) (run : Run)
    → and_then_lines number (λ next. lines_from next (number + 1) lines) r ≡ Ok run
    → (next : Stage) × (r ≡ Ok next) × (lines_from next (number + 1) lines ≡ Ok run)
after_line number lines (Ok next) run found = (next, refl, found)
after_line number lines (Err cause) run found = absurd (cc)

pub step_found : (stage next : Stage) (number : ℕ) (text : List ℕ) (lines : List TextLine) → length text ≤ 40000
    → text_at stage text ≡ Ok next
    → lines_from stage number (ended_line text ∷ lines) ≡ lines_from next (number + 1) lines
unfolding lines_from stage_at
step_found stage next number text lines few read =
    ap (λ r. and_then_lines number (λ s. lines_from s (number + 1) lines) (r >>= text_at stage)) (whole_line-again text few)
    ∙ ap (and_then_lines number (λ s. lines_from s (number + 1) lines)) read

-- Behind the end.
pub ended_only : (kept : Run) (number : ℕ) (lines : List TextLine) (run : Run) → lines_from (stages.Ended kept) number lines ≡ Ok run
    → (lines ≡ []) × (kept ≡ run)
unfolding lines_from stage_at text_at
ended_only kept number [] run found = (refl, cc)
ended_only kept number (line ∷ lines) run found =
    let next = after_line number lines (stage_at (stages.Ended kept) line) run found in
    let text = bind_ok (whole_line line) (text_at (stages.Ended kept)) next.0 next.1 in
    absurd (let e = text.2 in cc)

pub ended_found : (run : Run) (number : ℕ) → lines_from (stages.Ended run) number [] ≡ Ok run
unfolding lines_from
ended_found run number = refl

-- The last line.
some_token : (x y : List ℕ) → (let left : Option (List ℕ) = Some x in left ≡ Some y) → x ≡ y
some_token x y same = cc

pub end_only : (tokens : List (List ℕ)) (token : List ℕ) → end_number tokens ≡ Some token → SpellsFields end_form (tt, (token, tt)) tokens
unfolding end_number
end_only [] token is = absurd (cc)
end_only (name ∷ []) token is = absurd (cc)
end_only (name ∷ found ∷ []) token is =
    elim (chosen (bytes_eq name (codes "end") && is_number found) (Some found) None (Some token) is) [
      | inl both ↦
          let parts = and_parts (bytes_eq name (codes "end")) (is_number found) both.0 in
          ((bytes_eq-Decides name (codes "end")).0 parts.0, ((parts.1, sym (some_token found token both.1)), tt))
      | inr other ↦ absurd (let e = other.1 in cc)
    ]
end_only (name ∷ found ∷ next ∷ tokens) token is = absurd (cc)

pub end_found : (tokens : List (List ℕ)) (token : List ℕ) → SpellsFields end_form (tt, (token, tt)) tokens → end_number tokens ≡ Some token
unfolding end_number
end_found [] token spelled = absurd spelled
end_found (name ∷ []) token spelled = absurd spelled.1
end_found (name ∷ found ∷ []) token spelled =
    let both = and_from (bytes_eq name (codes "end")) (is_number found) ((bytes_eq-Decides name (codes "end")).1 spelled.0) spelled.1.0.0 in
    cond-true (bytes_eq name (codes "end") && is_number found) (Some found) None both ∙ ap Some (sym spelled.1.0.1)
end_found (name ∷ found ∷ next ∷ tokens) token spelled = absurd spelled.1.1

abbrev pub end_text : List ℕ
end_text = codes "end"

-- A number isn't the word `end`.
no_number : is_number end_text ≡ false
no_number = refl

pub none_or_some : (o : Option (List ℕ)) → (o ≡ None) ⊎ ((x : List ℕ) × (o ≡ Some x))
none_or_some None = inl refl
none_or_some (Some x) = inr (x, refl)

not_the_end : (token : List ℕ) (tokens : List (List ℕ)) → is_number token ≡ true → end_number (token ∷ tokens) ≡ None
not_the_end token tokens digits =
    elim (none_or_some (end_number (token ∷ tokens))) [
      | inl none ↦ none
      | inr some ↦
          let spelled = end_only (token ∷ tokens) some.0 some.1 in
          absurd (both_ways (is_number token) (ap is_number spelled.0 ∙ no_number) digits)
    ]

-- An entry of a run is taken from the tokens that spell it.
below_limit : (n : ℕ) → n < 20000 → n < 2 ^ 64
below_limit n few = omega arith

pub tokens_taken : (version : ℕ) (run : Run) (e : Entry) (rest : List Entry) (tokens : List (List ℕ))
    → IsRun run.config (run.entries ++ e ∷ rest) → length run.entries < 20000
    → SpellsEntry version run.config.clients e tokens
    → ended_or (end_number tokens) run (entry_taken version run tokens) ≡ Ok (stages.Entries version (recorded run e))
tokens_taken version run e rest [] is_run room spelled = absurd spelled
tokens_taken version run e rest (token ∷ tokens) is_run room spelled =
    let at = entry_behind run.config run.entries rest e is_run in
    let count = length run.entries in
    let line = said_as version e.client e.input in
    let token_is : token ≡ decimal count = spelled.0 ∙ ap decimal at.number_is in
    let digits : is_number token ≡ true = ap is_number token_is ∙ is_number-decimal count (below_limit count room) in
    let takes : Result Stage Cause = taken run line >>= (λ next. Ok (stages.Entries version next)) in
    let said = entry_found version run.config.clients line token tokens digits
    (spells_said version run.config.clients e.client e.input tokens spelled.1) in
    let pushed = taken_by version run (recorded run e) e.client e.input
    (entries_are_pushed run.config run.entries rest e is_run) at.is_fed in
    ap (λ o. ended_or o run (entry_taken version run (token ∷ tokens))) (not_the_end token tokens digits)
    ∙ (cond-false (leb 20000 count) (Err causes.Events)
    (entry_at version run.config.clients (token ∷ tokens) >>= (λ given. numbered version run given.0 given.1)) (lt-leb _ _ room)
    ∙ (ap (λ r. r >>= (λ given. numbered version run given.0 given.1)) said
    ∙ (cond-true (is_number_of count token) takes (Err causes.Order) ((bytes_eq-Decides token (decimal count)).1 token_is)
    ∙ ap (λ r. r >>= (λ next. Ok (stages.Entries version next))) pushed)))

-- The lines behind the head.
abbrev pub FitsLine : List ℕ → Type 0
FitsLine text = length text ≤ 40000

pub entry_read : (version : ℕ) (run : Run) (e : Entry) (rest : List Entry) (text : List ℕ)
    → IsRun run.config (run.entries ++ e ∷ rest) → length run.entries < 20000
    → SpellsEntry version run.config.clients e (tokens_of text)
    → text_at (stages.Entries version run) text ≡ Ok (stages.Entries version (recorded run e))
unfolding text_at
entry_read version run e rest text is_run room spelled = tokens_taken version run e rest (tokens_of text) is_run room spelled

pub end_read : (version : ℕ) (run : Run) (text : List ℕ) → IsEndLine (length run.entries) text
    → text_at (stages.Entries version run) text ≡ Ok (stages.Ended run)
unfolding text_at
end_read version run text spelled =
    let tokens = tokens_of text in
    let count = length run.entries in
    ap (λ o. ended_or o run (entry_taken version run tokens)) (end_found tokens (decimal count) spelled)
    ∙ cond-true (is_number_of count (decimal count)) (Ok (stages.Ended run)) (Err causes.Order) (same_bytes (decimal count))

pub entries_found : (version : ℕ) (run : Run) (number : ℕ) (rest : List Entry) (texts : List (List ℕ)) (last : List ℕ)
    → IsRun run.config (run.entries ++ rest) → length (run.entries ++ rest) ≤ 20000
    → AreEntryLines version run.config.clients rest texts → IsEndLine (length (run.entries ++ rest)) last
    → AllByRecursion FitsLine (texts ++ last ∷ [])
    → lines_from (stages.Entries version run) number (ended_lines (texts ++ last ∷ [])) ≡ Ok (record run { entries = run.entries ++ rest })
entries_found version run number [] [] last is_run few spelled ends fit =
    let all : List Entry → Run = λ (es : List Entry). record run { entries = es } in
    let none : run.entries ++ [] ≡ run.entries = append-nil run.entries in
    step_found (stages.Entries version run) (stages.Ended run) number last [] fit.0
    (end_read version run last (subst (λ (es : List Entry). IsEndLine (length es) last) none ends))
    ∙ (ended_found run (number + 1) ∙ ap (λ (es : List Entry). Ok (all es)) (sym none))
entries_found version run number [] (text ∷ texts) last is_run few spelled ends fit = absurd spelled
entries_found version run number (e ∷ rest) [] last is_run few spelled ends fit = absurd spelled
entries_found version run number (e ∷ rest) (text ∷ texts) last is_run few spelled ends fit =
    let grown = recorded run e in
    let all : List Entry → Run = λ (es : List Entry). record run { entries = es } in
    let joined : (run.entries ++ e ∷ []) ++ rest ≡ run.entries ++ (e ∷ rest) = append_assoc run.entries (e ∷ []) rest in
    let size = length-append run.entries (e ∷ rest) in
    let room : length run.entries < 20000 = omega arith in
    step_found (stages.Entries version run) (stages.Entries version grown) number text (ended_lines (texts ++ last ∷ [])) fit.0
    (entry_read version run e rest text is_run room spelled.0)
    ∙ (entries_found version grown (number + 1) rest texts last
    (subst (λ (es : List Entry). IsRun run.config es) (sym joined) is_run)
    (subst (λ (es : List Entry). length es ≤ 20000) (sym joined) few)
    spelled.1
    (subst (λ (es : List Entry). IsEndLine (length es) last) (sym joined) ends)
    fit.1
    ∙ ap (λ (es : List Entry). Ok (all es)) joined)

-- What is read behind the head is spelled.
pub record Rest (version : ℕ) (run : Run) (lines : List TextLine) (made : Run) : Type 0 where
  pub texts : List (List ℕ)
  pub last : List ℕ
  pub entries : List Entry
  pub lines_are : lines ≡ ended_lines (texts ++ last ∷ [])
  pub fit : AllByRecursion FitsLine (texts ++ last ∷ [])
  pub spelled : AreEntryLines version run.config.clients entries texts
  pub ends : IsEndLine (length (run.entries ++ entries)) last
  pub made_is : record run { entries = run.entries ++ entries } ≡ made
  pub is_run : IsRun run.config (run.entries ++ entries)
  pub few : length (run.entries ++ entries) ≤ 20000

-- What one line does.
record Item (version : ℕ) (run : Run) (tokens : List (List ℕ)) (next : Stage) : Type 0 where
  entry : Entry
  room : length run.entries < 20000
  spelled : SpellsEntry version run.config.clients entry tokens
  is_run : IsRun run.config (run.entries ++ entry ∷ [])
  next_is : stages.Entries version (recorded run entry) ≡ next

abbrev IsLast : Run → List (List ℕ) → Stage → Type 0
IsLast run tokens next = SpellsFields end_form (tt, (decimal (length run.entries), tt)) tokens × (stages.Ended run ≡ next)

numbered_only : (version : ℕ) (run : Run) (tokens : List (List ℕ)) (next : Stage) (given : List ℕ × EntryLine)
    → IsRun run.config run.entries → length run.entries < 20000 → entry_at version run.config.clients tokens ≡ Ok given
    → numbered version run given.0 given.1 ≡ Ok next → Item version run tokens next
numbered_only version run tokens next given is_run room found is =
    let count = length run.entries in
    let takes : Result Stage Cause = taken run given.1 >>= (λ after. Ok (stages.Entries version after)) in
    elim (chosen (is_number_of count given.0) takes (Err causes.Order) (Ok next) is) [
      | inl due ↦
          let after = bind_ok (taken run given.1) (λ after. Ok (stages.Entries version after)) next due.1 in
          let fits = entry_in_range version run.config.clients tokens given found in
          let t = taken_only version run.config.clients run after.0 given.1 is_run fits after.1 in
          let line = entry_only version run.config.clients tokens given found in
          let token_is : given.0 ≡ decimal t.entry.number = (bytes_eq-Decides given.0 (decimal count)).0 due.0
          ∙ ap decimal (sym t.number_is) in
          record {
            entry = t.entry;
            room = room;
            spelled = subst (λ (ts : List (List ℕ)). SpellsEntry version run.config.clients t.entry ts) (sym line.tokens_are)
                (token_is, t.spelled line.behind line.spelled);
            is_run = t.is_run;
            next_is = ap (stages.Entries version) t.next_is ∙ ok_same (stages.Entries version after.0) next after.2;
          }
      | inr other ↦ absurd (let e = other.1 in cc)
    ]

entry_taken-only : (version : ℕ) (run : Run) (tokens : List (List ℕ)) (next : Stage) → IsRun run.config run.entries
    → entry_taken version run tokens ≡ Ok next → Item version run tokens next
entry_taken-only version run tokens next is_run is =
    let entry : Result Stage Cause = entry_at version run.config.clients tokens >>= (λ given. numbered version run given.0 given.1) in
    elim (chosen (leb 20000 (length run.entries)) (Err causes.Events) entry (Ok next) is) [
      | inl full ↦ absurd (let e = full.1 in cc)
      | inr room ↦
          let given = bind_ok (entry_at version run.config.clients tokens) (λ given. numbered version run given.0 given.1) next room.1 in
          numbered_only version run tokens next given.0 is_run (leb-false _ _ room.0) given.1 given.2
    ]

ended_or-only : (version : ℕ) (run : Run) (tokens : List (List ℕ)) (next : Stage) (end : Option (List ℕ)) → end_number tokens ≡ end
    → IsRun run.config run.entries → ended_or end run (entry_taken version run tokens) ≡ Ok next
    → IsLast run tokens next ⊎ Item version run tokens next
ended_or-only version run tokens next None none is_run is = inr (entry_taken-only version run tokens next is_run is)
ended_or-only version run tokens next (Some token) some is_run is =
    let count = length run.entries in
    elim (chosen (is_number_of count token) (Ok (stages.Ended run)) (Err causes.Order) (Ok next) is) [
      | inl due ↦ inl (
        subst (λ (t : List ℕ). SpellsFields end_form (tt, (t, tt)) tokens) ((bytes_eq-Decides token (decimal count)).0 due.0)
            (end_only tokens token some),
        ok_same (stages.Ended run) next due.1,
      )
      | inr other ↦ absurd (let e = other.1 in cc)
    ]

item_only : (version : ℕ) (run : Run) (text : List ℕ) (next : Stage) → IsRun run.config run.entries
    → text_at (stages.Entries version run) text ≡ Ok next → IsLast run (tokens_of text) next ⊎ Item version run (tokens_of text) next
unfolding text_at
item_only version run text next is_run read =
    ended_or-only version run (tokens_of text) next (end_number (tokens_of text)) refl is_run read

entries_unfinished : (version : ℕ) (run made : Run) (number : ℕ) → finished (stages.Entries version run) number ≡ Ok made → ⊥
entries_unfinished version run made number found = absurd (cc)

pub entries_only : (version : ℕ) (run : Run) (number : ℕ) (lines : List TextLine) (made : Run) → IsRun run.config run.entries
    → length run.entries ≤ 20000 → lines_from (stages.Entries version run) number lines ≡ Ok made → Rest version run lines made
unfolding lines_from stage_at
entries_only version run number [] made is_run few found = absurd (entries_unfinished version run made number found)
entries_only version run number (line ∷ lines) made is_run few found =
    let next = after_line number lines (stage_at (stages.Entries version run) line) made found in
    let text = bind_ok (whole_line line) (text_at (stages.Entries version run)) next.0 next.1 in
    let whole = whole_line-only line text.0 text.1 in
    let none : run.entries ++ [] ≡ run.entries = append-nil run.entries in
    elim (item_only version run text.0 next.0 is_run text.2) [
      | inl end ↦
          let behind = ended_only run (number + 1) lines made (ap (λ st. lines_from st (number + 1) lines) end.1 ∙ next.2) in
          record {
            texts = [];
            last = text.0;
            entries = [];
            lines_are = ap (λ l. l ∷ lines) whole.0 ∙ ap (λ ls. ended_line text.0 ∷ ls) behind.0;
            fit = (whole.1, tt);
            spelled = tt;
            ends = subst (λ (es : List Entry). IsEndLine (length es) text.0) (sym none) end.0;
            made_is = ap (λ (es : List Entry). record run { entries = es }) none ∙ behind.1;
            is_run = subst (λ (es : List Entry). IsRun run.config es) (sym none) is_run;
            few = subst (λ (es : List Entry). length es ≤ 20000) (sym none) few;
          }
      | inr item ↦
          let grown = recorded run item.entry in
          let count : length grown.entries ≤ 20000 = omega (arith, item.room, length-append run.entries (item.entry ∷ [])) in
          let more = entries_only version grown (number + 1) lines made item.is_run count
          (ap (λ st. lines_from st (number + 1) lines) item.next_is ∙ next.2) in
          let joined : (run.entries ++ item.entry ∷ []) ++ more.entries ≡ run.entries ++ (item.entry ∷ more.entries) =
          append_assoc run.entries (item.entry ∷ []) more.entries in
          record {
            texts = text.0 ∷ more.texts;
            last = more.last;
            entries = item.entry ∷ more.entries;
            lines_are = ap (λ l. l ∷ lines) whole.0 ∙ ap (λ ls. ended_line text.0 ∷ ls) more.lines_are;
            fit = (whole.1, more.fit);
            spelled = (item.spelled, more.spelled);
            ends = subst (λ (es : List Entry). IsEndLine (length es) more.last) joined more.ends;
            made_is = ap (λ (es : List Entry). record run { entries = es }) (sym joined) ∙ more.made_is;
            is_run = subst (λ (es : List Entry). IsRun run.config es) joined more.is_run;
            few = subst (λ (es : List Entry). length es ≤ 20000) joined more.few;
          }
    ]
