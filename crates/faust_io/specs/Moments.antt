-- Moments, and the clocks that give them. The promises on clocks rest on these.
use Rattle.std.specs.Prelude.{◌≡◌, ℕ, ◌^◌, ◌<◌, List, [], ◌∷◌, Option, Some, None, MatchOption}
use Rattle.faust_io.specs.Faults.{CountsFault}
use Rattle.faust_io.specs.Calls.{next}

-- A moment is at most 2^40 - 1.
abbrev pub IsMoment : ℕ → Type 0
IsMoment moment = moment < 2 ^ 40

-- What one call of a clock does to the count of its ends: it rises where no moment came, and stands still otherwise.
abbrev pub CountsEnd : Option ℕ → ℕ → ℕ → Type 0
CountsEnd answer before now = MatchOption answer (CountsFault before now) (λ _. now ≡ before)

-- A clock of a list: the moments that are left, and how often it said that none is.
pub record ListView : Type 0 where
  pub left : List ℕ
  pub ends : ℕ

-- The next of these moments.
abbrev pub first_of : List ℕ → Option ℕ
first_of [] = None
first_of (moment ∷ later) = Some moment

-- The clock after a call.
abbrev pub after_first : List ℕ → ℕ → ListView
after_first [] ends = record { left = []; ends = next ends }
after_first (moment ∷ later) ends = record { left = later; ends = ends }

-- A clock that goes on by a period: its last moment, and how often it ended.
pub record PeriodView : Type 0 where
  pub moment : ℕ
  pub period : ℕ
  pub ends : ℕ
