-- Lines whose bytes come piece by piece.
use Rattle.std.proofs.Common.{◌≡◌, ℕ, ◌+◌, ◌-◌, ◌<◌, ◌≤◌, true, false, cond, ltb, eqb, List, [], ◌∷◌, ◌++◌, length, drop, length-drop, Result, Ok, Err, IfOk, ◌^◌, refl, sym, ap, ◌∙◌, subst, arith, append_assoc}
use Rattle.std.specs.List.{flat_map}
use Rattle.std.proofs.lemmas.Bool.{cond-false, false≢true, lt-ltb}
use Rattle.std.proofs.lemmas.List.{length-append, length-take-le, append-nil}
use Rattle.faust_text.specs.declared.cause.Cause.TheVariants as causes
use Rattle.faust_text.specs.declared.error.LineError.{LineError}
use Rattle.faust_text.specs.declared.error.LineError.TheVariants as line_errors
use Rattle.faust_text.specs.declared.line.Line.{Line}
use Rattle.faust_text.specs.Fields.{Fails}
use Rattle.faust_text.specs.Lines.{AreInOrder, AreLines, BeginsAt, IsWithout, TextLine, begun, line_in, lines_of, whole}
use Rattle.faust_text.proofs.LineLaws.{lines_are}
use Rattle.faust_record.specs.Runs.{Run}
use Rattle.faust_store.specs.declared.error.StoreError.{StoreError}
use Rattle.faust_store.specs.declared.error.StoreError.TheVariants as errors
use Rattle.faust_store.specs.declared.feed.Feed.{Feed}
use Rattle.faust_store.specs.declared.feed.Taken.{Taken}
use Rattle.faust_store.specs.declared.stage.Stage.{Stage}
use Rattle.faust_store.specs.Feeding.{Feeds, HasTaken, IsEndedAt, IsFed, IsFeed, KeepsRest, Takes, due_of}
use Rattle.faust_store.specs.Reading.{Reads, Refusal, and_then_lines, lines_from, refused_at, stage_at}

-- Bytes without a line feed, and then one: that is the first line, whatever follows.
first_ended : (bytes rest : List ℕ) → IsWithout 10 bytes
    → lines_of ((bytes ++ 10 ∷ []) ++ rest) ≡ record { bytes = bytes; ended = true } ∷ lines_of rest
first_ended [] rest none = refl
first_ended (b ∷ bs) rest none =
    cond-false (eqb b 10) (record { bytes = []; ended = true } ∷ lines_of ((bs ++ 10 ∷ []) ++ rest)) _ none.0
    ∙ ap (begun b) (first_ended bs rest none.1)

first_without : (line : TextLine) (lines : List TextLine) → AreInOrder (line ∷ lines) → IsWithout 10 line.bytes
first_without line [] ordered = ordered.0
first_without line (next ∷ lines) ordered = ordered.0

-- A line that isn't ended is the last, and no line feed stands in it.
last_without : (line : TextLine) (lines : List TextLine) (all : List ℕ) → AreInOrder (line ∷ lines) → line.ended ≡ false
    → all ≡ flat_map whole (line ∷ lines) → IsWithout 10 all
last_without line [] all ordered open_end are =
    let is : all ≡ line.bytes =
    are ∙ (append-nil (whole line) ∙ (ap (λ t. line.bytes ++ cond t (10 ∷ []) []) open_end ∙ append-nil line.bytes)) in
    subst (IsWithout 10) (sym is) ordered.0
last_without line (next ∷ lines) all ordered open_end are = absurd (false≢true (sym open_end ∙ ordered.1))

are_lines : (bytes : List ℕ) → AreLines bytes (lines_of bytes)
are_lines bytes = (lines_are bytes (lines_of bytes)).1 refl

-- The bytes behind a place, where a line begins there.
behind : (bytes : List ℕ) (from : ℕ) (line : Line) → BeginsAt bytes from line
    → drop from bytes ≡ whole (line_in bytes line) ++ drop (line.span.end + 1) bytes
behind bytes from line begins =
    (are_lines (drop from bytes)).together
    ∙ (ap (flat_map whole) begins.lines_from
    ∙ ap (λ t. whole (line_in bytes line) ++ t) (sym (are_lines (drop (line.span.end + 1) bytes)).together))

ordered_at : (bytes : List ℕ) (from : ℕ) (line : Line) → BeginsAt bytes from line
    → AreInOrder (line_in bytes line ∷ lines_of (drop (line.span.end + 1) bytes))
ordered_at bytes from line begins = subst AreInOrder begins.lines_from (are_lines (drop from bytes)).in_order

pub line_ended : (bytes : List ℕ) (from : ℕ) (line : Line) → BeginsAt bytes from line → line.ended ≡ true → IsEndedAt bytes from line
line_ended bytes from line begins ended =
    let here = line_in bytes line in
    let rest = drop (line.span.end + 1) bytes in
    let all : drop from bytes ≡ (here.bytes ++ 10 ∷ []) ++ rest =
    behind bytes from line begins ∙ ap (λ t. (here.bytes ++ cond t (10 ∷ []) []) ++ rest) ended in
    let none = first_without here (lines_of rest) (ordered_at bytes from line begins) in
    let text : length here.bytes ≡ line.span.end - line.span.start =
    length-take-le (line.span.end - line.span.start) (drop line.span.start bytes)
    (omega (arith, begins.starts, begins.not_before, begins.within, length-drop line.span.start bytes)) in
    let counted : length (drop from bytes) ≡ (length here.bytes + 1) + length rest =
    ap length all ∙ (length-append (here.bytes ++ 10 ∷ []) rest ∙ ap (λ k. k + length rest) (length-append here.bytes (10 ∷ []))) in
    record {
      lines_from = λ later.
          ap (λ t. lines_of (t ++ later)) all
          ∙ (ap lines_of (append_assoc (here.bytes ++ 10 ∷ []) rest later)
          ∙ (first_ended here.bytes (rest ++ later) none
          ∙ ap (λ t. record { bytes = here.bytes; ended = t } ∷ lines_of (rest ++ later)) (sym ended)));
      starts = begins.starts;
      not_before = begins.not_before;
      within = omega (arith, counted, text, begins.starts, begins.not_before, begins.within, begins.not_end, length-drop from bytes);
    }

pub line_open : (bytes : List ℕ) (from : ℕ) (line : Line) → BeginsAt bytes from line → line.ended ≡ false → IsWithout 10 (drop from bytes)
line_open bytes from line begins open_end =
    last_without (line_in bytes line) (lines_of (drop (line.span.end + 1) bytes)) (drop from bytes)
    (ordered_at bytes from line begins) open_end
    ((are_lines (drop from bytes)).together ∙ ap (flat_map whole) begins.lines_from)

pub no_line : (bytes : List ℕ) (from : ℕ) → lines_of (drop from bytes) ≡ [] → IsWithout 10 (drop from bytes)
no_line bytes from none =
    subst (IsWithout 10) (sym ((are_lines (drop from bytes)).together ∙ ap (flat_map whole) none)) tt

-- One line on, whatever follows.
pub one_taken : (stage next : Stage) (number : ℕ) (line : TextLine) (lines rest : List TextLine) → lines ≡ line ∷ rest
    → stage_at stage line ≡ Ok next → lines_from stage number lines ≡ lines_from next (number + 1) rest
unfolding lines_from
one_taken stage next number line lines rest are taken =
    ap (lines_from stage number) are ∙ ap (and_then_lines number (λ s. lines_from s (number + 1) rest)) taken

pub one_refused : (stage : Stage) (number : ℕ) (error : LineError) (line : TextLine) (lines rest : List TextLine) (due : Result Run Refusal)
    → lines ≡ line ∷ rest → Fails error (stage_at stage line) → due ≡ lines_from stage number lines
    → Reads (Err (refused_at number error)) due
unfolding lines_from
one_refused stage number (line_errors.Refused cause) line lines rest due are failed is =
    is ∙ (ap (lines_from stage number) are ∙ ap (and_then_lines number (λ s. lines_from s (number + 1) rest)) failed)
one_refused stage number line_errors.OutOfMemory line lines rest due are failed is = tt

-- The first line of bytes that begin without a line feed is as long as these.
record HasLong (bytes : List ℕ) (lines : List TextLine) : Type 0 where
  line : TextLine
  rest : List TextLine
  are : lines ≡ line ∷ rest
  long : length bytes ≤ length line.bytes

long_begun : (b : ℕ) (lines : List TextLine) → HasLong (b ∷ []) (begun b lines)
long_begun b [] = record { line = record { bytes = b ∷ []; ended = false }; rest = []; are = refl; long = omega arith }
long_begun b (line ∷ lines) = record { line = record line { bytes = b ∷ line.bytes }; rest = lines; are = refl; long = omega arith }

longer : (b : ℕ) (bytes : List ℕ) (lines : List TextLine) → HasLong bytes lines → HasLong (b ∷ bytes) (begun b lines)
longer b bytes lines has = record {
  line = record has.line { bytes = b ∷ has.line.bytes };
  rest = has.rest;
  are = ap (begun b) has.are;
  long = let few = has.long in omega (arith, few);
}

first_long : (b : ℕ) (bytes later : List ℕ) → IsWithout 10 (b ∷ bytes) → HasLong (b ∷ bytes) (lines_of ((b ∷ bytes) ++ later))
first_long b [] later none =
    subst (HasLong (b ∷ []))
    (sym (cond-false (eqb b 10) (record { bytes = []; ended = true } ∷ lines_of later) (begun b (lines_of later)) none.0))
    (long_begun b (lines_of later))
first_long b (c ∷ cs) later none =
    let more = lines_of ((c ∷ cs) ++ later) in
    subst (HasLong (b ∷ c ∷ cs)) (sym (cond-false (eqb b 10) (record { bytes = []; ended = true } ∷ more) (begun b more) none.0))
    (longer b (c ∷ cs) more (first_long c cs later none.1))

long_refused : (stage : Stage) (number : ℕ) (bytes : List ℕ) (lines : List TextLine) (has : HasLong bytes lines) → 40000 < length bytes
    → lines_from stage number lines ≡ Err (record { line = number; cause = causes.TooLong })
unfolding lines_from stage_at
long_refused stage number bytes lines has many =
    let long = has.long in
    let over : ltb 40000 (length has.line.bytes) ≡ true = lt-ltb _ _ (omega (arith, long, many)) in
    let refused : stage_at stage has.line ≡ Err causes.TooLong = cc (over) in
    ap (lines_from stage number) has.are ∙ ap (and_then_lines number (λ s. lines_from s (number + 1) has.rest)) refused

-- A line that is too long is refused before its line feed has come.
pub too_long : (stage : Stage) (number : ℕ) (bytes later : List ℕ) → IsWithout 10 bytes → 40000 < length bytes
    → lines_from stage number (lines_of (bytes ++ later)) ≡ Err (record { line = number; cause = causes.TooLong })
too_long stage number [] later none many = absurd (omega (arith, many))
too_long stage number (b ∷ bs) later none many =
    long_refused stage number (b ∷ bs) (lines_of ((b ∷ bs) ++ later)) (first_long b bs later none) many

-- What is kept behind whole lines answers what the bytes do.
kept : (start : Stage) (first : ℕ) (bytes : List ℕ) (left : ℕ) (taken : Taken) → HasTaken start first bytes taken
    → first + left + length bytes < 2 ^ 63
    → IsFed start first bytes left (record { stage = taken.stage; number = taken.number; rest = drop taken.from bytes; left = left })
unfolding due_of
kept start first bytes left taken has few = record {
  is_feed = record {
    in_range = has.in_range;
    counted = let counted = has.counted in let within = has.within in omega (arith, counted, within, few, length-drop taken.from bytes);
  };
  left_is = refl;
  due = λ later. sym (has.so_far later);
}

pub fed_on : (start : Stage) (first : ℕ) (bytes : List ℕ) (left : ℕ) (taken : Taken) (result : Result Feed StoreError)
    → HasTaken start first bytes taken → first + left + length bytes < 2 ^ 63 → KeepsRest result taken bytes left
    → Feeds result start first bytes left
fed_on start first bytes left taken (Ok next) has few is =
    subst (λ (f : Feed). IsFed start first bytes left f) (sym is) (kept start first bytes left taken has few)
fed_on start first bytes left taken (Err (errors.BadRecord line cause)) has few is = λ later.
    has.so_far later
    ∙ (too_long taken.stage taken.number (drop taken.from bytes) later has.no_more is.2
    ∙ (ap (λ l. Err (record { line = l; cause = causes.TooLong })) (sym is.0)
    ∙ ap (λ k. Err (record { line = line; cause = k })) (sym is.1)))
fed_on start first bytes left taken (Err errors.OutOfMemory) has few is = λ later. tt

-- A piece is taken where the bytes so far and the piece are fed.
regrouped : (feed : Feed) (piece bytes later : List ℕ) → bytes ≡ feed.rest ++ piece
    → lines_from feed.stage feed.number (lines_of (bytes ++ later)) ≡ due_of feed (piece ++ later)
unfolding due_of
regrouped feed piece bytes later are =
    ap (λ (t : List ℕ). lines_from feed.stage feed.number (lines_of (t ++ later))) are
    ∙ ap (λ (t : List ℕ). lines_from feed.stage feed.number (lines_of t)) (append_assoc feed.rest piece later)

pub piece_taken : (feed : Feed) (piece bytes : List ℕ) (left : ℕ) (result : Result Feed StoreError) → bytes ≡ feed.rest ++ piece
    → Feeds result feed.stage feed.number bytes left → Takes result feed piece
piece_taken feed piece bytes left (Ok next) are fed = λ later. fed.due later ∙ regrouped feed piece bytes later are
piece_taken feed piece bytes left (Err e) are fed = λ later.
    subst (λ (due : Result Run Refusal). Reads (Err e) due) (regrouped feed piece bytes later are) (fed later)

pub piece_kept : (start : Stage) (first : ℕ) (bytes : List ℕ) (left : ℕ) (result : Result Feed StoreError)
    → Feeds result start first bytes left → IfOk result IsFeed
piece_kept start first bytes left (Ok next) fed = fed.is_feed
piece_kept start first bytes left (Err e) fed = tt

pub piece_left : (start : Stage) (first : ℕ) (bytes : List ℕ) (left all len : ℕ) (result : Result Feed StoreError)
    → left + len ≡ all → Feeds result start first bytes left → IfOk result (λ next. next.left + len ≡ all)
piece_left start first bytes left all len (Ok next) sum fed = ap (λ k. k + len) fed.left_is ∙ sum
piece_left start first bytes left all len (Err e) sum fed = tt
