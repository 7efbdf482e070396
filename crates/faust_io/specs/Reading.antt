-- What reads do to the bytes that a source has left, where it tells them. `Consumes` and `IsAtEnd` say nothing
-- of a source that doesn't tell, and that one that tells goes on telling.
use Rattle.std.specs.Prelude.{◌≡◌, ℕ, ◌<◌, ◌≤◌, List, length, take, Option, Result, Ok, Err, IfSome}
use Rattle.std.specs.Io.KnownBytes.{Consumes, IsAtEnd}
use Rattle.faust_io.specs.declared.failed.Failed.{Failed}

-- A read gave count bytes: the next ones, at the front of the buffer; none into room only at the end.
pub record Gives (before after : Option (List ℕ)) (buffer : List ℕ) (count : ℕ) : Type 0 where
  pub fits : count ≤ length buffer
  pub next : Consumes before after (take count buffer)
  pub none_at_end : count ≡ 0 → 0 < length buffer → IsAtEnd after

-- What one read does. A failed one gave nothing.
abbrev pub Reads : Option (List ℕ) → Option (List ℕ) → List ℕ → Result ℕ Failed → Type 0
Reads before after buffer (Ok count) = Gives before after buffer count
Reads before after buffer (Err e) = after ≡ before

-- The bytes are all that the source had left, and nothing is left.
pub record IsWhole (before after : Option (List ℕ)) (bytes : List ℕ) : Type 0 where
  pub all : IfSome before (λ content. content ≡ bytes)
  pub at_end : IsAtEnd after

-- Bytes were taken from the front, no more than most.
pub record TakesAtMost (before after : Option (List ℕ)) (most : ℕ) : Type 0 where
  pub taken : List ℕ
  pub few : length taken ≤ most
  pub front : Consumes before after taken
