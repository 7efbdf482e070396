-- The lines of an input: their bytes, and where they stand.
use Rattle.std.specs.Prelude.{◌≡◌, ℕ, ◌+◌, ◌<◌, ◌≤◌, ◌==◌, Bool, true, false, cond, List, [], ◌∷◌, ◌++◌, length, drop, slice_range, flat_map, nat_lt, Option, Some, None, Result, Ok, Err}
use Rattle.faust_text.specs.declared.cause.Cause.{Cause}
use Rattle.faust_text.specs.declared.cause.Cause.TheVariants.{TooLong, CutOff}
use Rattle.faust_text.specs.declared.line.Span.{Span}
use Rattle.faust_text.specs.declared.line.Line.{Line}

-- A line: its bytes, and whether a line feed follows them.
pub record TextLine : Type 0 where
  pub bytes : List ℕ
  pub ended : Bool

-- The lines of some bytes. A byte goes onto the first line of those behind it, and a line feed ends a line.
-- After the last line feed a further line stands only where bytes follow it.
abbrev pub begun : ℕ → List TextLine → List TextLine
begun b [] = record { bytes = b ∷ []; ended = false } ∷ []
begun b (line ∷ lines) = record line { bytes = b ∷ line.bytes } ∷ lines

abbrev pub lines_of : List ℕ → List TextLine
lines_of [] = []
lines_of (b ∷ bs) = cond (b == 10) (record { bytes = []; ended = true } ∷ lines_of bs) (begun b (lines_of bs))

-- The same in other words: these are lines without a line feed in them, all but the last are ended, a last one
-- that isn't ended has a byte, and together they are the bytes.
abbrev pub whole : TextLine → List ℕ
whole line = line.bytes ++ cond line.ended (10 ∷ []) []

abbrev pub IsWithout : ℕ → List ℕ → Type 0
IsWithout b [] = Unit {0}
IsWithout b (x ∷ xs) = ((x == b) ≡ false) × IsWithout b xs

abbrev pub AreInOrder : List TextLine → Type 0
AreInOrder [] = Unit {0}
AreInOrder (line ∷ []) = IsWithout 10 line.bytes × (line.ended ≡ false → 0 < length line.bytes)
AreInOrder (line ∷ next ∷ lines) = IsWithout 10 line.bytes × (line.ended ≡ true) × AreInOrder (next ∷ lines)

pub record AreLines (bytes : List ℕ) (lines : List TextLine) : Type 0 where
  pub together : bytes ≡ flat_map whole lines
  pub in_order : AreInOrder lines

-- The bytes of a line that isn't too long and isn't cut off.
abbrev pub whole_line : TextLine → Result (List ℕ) Cause
whole_line line = cond (nat_lt 40000 (length line.bytes)) (Err TooLong) (cond line.ended (Ok line.bytes) (Err CutOff))

-- A text of whole lines.
abbrev pub ended_text : List (List ℕ) → List ℕ
ended_text [] = []
ended_text (text ∷ texts) = (text ++ 10 ∷ []) ++ ended_text texts

abbrev pub ended_lines : List (List ℕ) → List TextLine
ended_lines [] = []
ended_lines (text ∷ texts) = record { bytes = text; ended = true } ∷ ended_lines texts

-- Where the lines stand, if the first begins at a place.
abbrev pub place_at : ℕ → TextLine → Line
place_at at line = record { span = record { start = at; end = at + length line.bytes }; ended = line.ended }

abbrev pub places_from : ℕ → List TextLine → List Line
places_from at [] = []
places_from at (line ∷ lines) = place_at at line ∷ places_from (at + length line.bytes + 1) lines

-- Where the lines of an input stand.
abbrev pub line_places : List ℕ → List Line
line_places input = places_from 0 (lines_of input)

-- The bytes at a span, and the line at a place.
abbrev pub text_in : List ℕ → Span → List ℕ
text_in input span = slice_range input span.start span.end

abbrev pub line_in : List ℕ → Line → TextLine
line_in input line = record { bytes = text_in input line.span; ended = line.ended }

-- A line begins at a place of the input, and the further lines behind its line feed.
pub record BeginsAt (input : List ℕ) (from : ℕ) (line : Line) : Type 0 where
  pub lines_from : lines_of (drop from input) ≡ line_in input line ∷ lines_of (drop (line.span.end + 1) input)
  pub starts : line.span.start ≡ from
  pub not_before : from ≤ line.span.end
  pub within : line.span.end ≤ length input
  pub not_end : from < length input

-- The line that begins at a place: none at the end of the input.
abbrev pub IsLineAt : List ℕ → ℕ → Option Line → Type 0
IsLineAt input from None = lines_of (drop from input) ≡ []
IsLineAt input from (Some line) = BeginsAt input from line
