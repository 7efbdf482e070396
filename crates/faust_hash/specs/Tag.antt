-- Whether two tags agree, for definitions that ask by a test. Promises rest on it.
use Rattle.std.specs.Prelude.{ℕ, List, Bool}
use Rattle.std.specs.Str.{bytes_eq}

-- Whether two tags have the same bytes.
abbrev pub is_same : List ℕ → List ℕ → Bool
is_same tag other = bytes_eq tag other
