-- Reading a record whose bytes come piece by piece: what was fed so far answers, with whatever follows, what the whole
-- record answers.
use Rattle.std.specs.Prelude.{◌≡◌, ℕ, ◌+◌, ◌^◌, ◌<◌, ◌≤◌, List, ◌∷◌, ◌++◌, length, drop, Option, Some, None, Result, Ok, Err}
use Rattle.faust_text.specs.declared.cause.Cause.TheVariants as causes
use Rattle.faust_text.specs.declared.line.Line.{Line}
use Rattle.faust_text.specs.Lines.{IsWithout, line_in, lines_of}
use Rattle.faust_record.specs.Runs.{Run}
use Rattle.faust_store.specs.declared.error.StoreError.{StoreError}
use Rattle.faust_store.specs.declared.error.StoreError.TheVariants.{BadRecord, OutOfMemory}
use Rattle.faust_store.specs.declared.feed.Feed.{Feed}
use Rattle.faust_store.specs.declared.feed.Taken.{Taken}
use Rattle.faust_store.specs.declared.stage.Stage.{Stage}
use Rattle.faust_store.specs.InRange.{IsStage}
use Rattle.faust_store.specs.Reading.{Reads, Refusal, lines_from}

-- What reading answers where these bytes are the last that come.
unfoldable pub due_of : Feed → List ℕ → Result Run Refusal
due_of feed later = lines_from feed.stage feed.number (lines_of (feed.rest ++ later))

-- One more piece changes nothing of what is due, whatever follows; and what is refused is so whatever follows.
abbrev pub Takes : Result Feed StoreError → Feed → List ℕ → Type 0
Takes (Ok next) feed piece = (later : List ℕ) → due_of next later ≡ due_of feed (piece ++ later)
Takes (Err e) feed piece = (later : List ℕ) → Reads (Err e) (due_of feed (piece ++ later))

-- What a feed keeps: each line has a byte, so there are no more lines than bytes.
pub record IsFeed (feed : Feed) : Type 0 where
  pub in_range : IsStage feed.stage
  pub counted : feed.number + feed.left + length feed.rest < 2 ^ 63

-- The line that begins at a place of some bytes and is ended in them; none where no line feed stands behind the place.
pub record IsEndedAt (bytes : List ℕ) (from : ℕ) (line : Line) : Type 0 where
  pub lines_from : (later : List ℕ) → lines_of (drop from bytes ++ later)
      ≡ line_in bytes line ∷ lines_of (drop (line.span.end + 1) bytes ++ later)
  pub starts : line.span.start ≡ from
  pub not_before : from ≤ line.span.end
  pub within : line.span.end + 1 ≤ length bytes

abbrev pub IsEndedLineAt : List ℕ → ℕ → Option Line → Type 0
IsEndedLineAt bytes from None = IsWithout 10 (drop from bytes)
IsEndedLineAt bytes from (Some line) = IsEndedAt bytes from line

-- All whole lines in front of some bytes are read.
pub record HasTaken (start : Stage) (first : ℕ) (bytes : List ℕ) (taken : Taken) : Type 0 where
  pub in_range : IsStage taken.stage
  pub counted : taken.number ≤ first + taken.from
  pub within : taken.from ≤ length bytes
  pub so_far : (later : List ℕ) → lines_from start first (lines_of (bytes ++ later))
      ≡ lines_from taken.stage taken.number (lines_of (drop taken.from bytes ++ later))
  pub no_more : IsWithout 10 (drop taken.from bytes)

abbrev pub TakesLines : Result Taken StoreError → Stage → ℕ → List ℕ → Type 0
TakesLines (Ok taken) start first bytes = HasTaken start first bytes taken
TakesLines (Err e) start first bytes = (later : List ℕ) → Reads (Err e) (lines_from start first (lines_of (bytes ++ later)))

-- Behind them only the next line is kept, which is refused where it is too long already.
abbrev pub KeepsRest : Result Feed StoreError → Taken → List ℕ → ℕ → Type 0
KeepsRest (Ok next) taken bytes left =
    next ≡ record { stage = taken.stage; number = taken.number; rest = drop taken.from bytes; left = left }
KeepsRest (Err (BadRecord line cause)) taken bytes left =
    (line ≡ taken.number) × (cause ≡ causes.TooLong) × (40000 < length (drop taken.from bytes))
KeepsRest (Err OutOfMemory) taken bytes left = Unit {0}

-- Both together: the bytes are read as far as they are whole lines, and the rest is kept.
pub record IsFed (start : Stage) (first : ℕ) (bytes : List ℕ) (left : ℕ) (next : Feed) : Type 0 where
  pub is_feed : IsFeed next
  pub left_is : next.left ≡ left
  pub due : (later : List ℕ) → due_of next later ≡ lines_from start first (lines_of (bytes ++ later))

abbrev pub Feeds : Result Feed StoreError → Stage → ℕ → List ℕ → ℕ → Type 0
Feeds (Ok next) start first bytes left = IsFed start first bytes left next
Feeds (Err e) start first bytes left = (later : List ℕ) → Reads (Err e) (lines_from start first (lines_of (bytes ++ later)))
