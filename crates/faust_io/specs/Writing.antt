-- What writes do to the bytes that a sink holds, where it tells them. `Appends` says nothing of a sink that
-- doesn't tell, and that one that tells goes on telling.
use Rattle.std.specs.Prelude.{◌≡◌, ℕ, ◌<◌, ◌≤◌, List, ◌++◌, length, take, Option, Result, Ok, Err}
use Rattle.std.specs.Io.KnownBytes.{Appends}
use Rattle.faust_io.specs.declared.failed.Failed.{Failed}

-- A write took the first count bytes of the piece, and put them behind what the sink held; of a piece that has
-- any it took some.
pub record Takes (before after : Option (List ℕ)) (piece : List ℕ) (count : ℕ) : Type 0 where
  pub fits : count ≤ length piece
  pub some : 0 < length piece → 0 < count
  pub behind : Appends before after (take count piece)

-- What one write does. A failed one took nothing.
abbrev pub Writes : Option (List ℕ) → Option (List ℕ) → List ℕ → Result ℕ Failed → Type 0
Writes before after piece (Ok count) = Takes before after piece count
Writes before after piece (Err e) = after ≡ before

-- The text begins with the front.
pub record IsPrefixOf (front text : List ℕ) : Type 0 where
  pub rest : List ℕ
  pub joined : text ≡ front ++ rest

-- The sink took a prefix of the text.
pub record AppendsPrefix (before after : Option (List ℕ)) (text : List ℕ) : Type 0 where
  pub front : List ℕ
  pub is_prefix : IsPrefixOf front text
  pub behind : Appends before after front
