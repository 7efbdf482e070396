-- What a count of faults says.
use Rattle.std.specs.Prelude.{◌≡◌, ℕ, ◌+◌, ◌-◌, ◌^◌, ◌≤◌, min, List, Result, MatchResult}
use Rattle.faust_io.specs.declared.failed.ReadError.{ReadError}
use Rattle.faust_io.specs.declared.failed.ReadError.TheVariants.{TooLong, Failed, OutOfMemory}

-- The count rose. One that stands at the end of 64 bits has no way up, and counts as one that rose.
abbrev pub Rose : ℕ → ℕ → Type 0
Rose before now = min (before + 1) (2 ^ 64 - 1) ≤ now

-- What a fault does to the count. A count never falls.
pub record CountsFault (before now : ℕ) : Type 0 where
  pub rose : Rose before now
  pub later : before ≤ now

-- What one call does to the count: it stands still unless the call fails.
abbrev pub Counts : {T E : Type 0} → Result T E → ℕ → ℕ → Type 0
Counts result before now = MatchResult result (λ _. now ≡ before) (λ _. CountsFault before now)

-- What reading a whole source does to the count: it stands still unless a read failed.
abbrev pub CountsError : ReadError → ℕ → ℕ → Type 0
CountsError TooLong before now = now ≡ before
CountsError Failed before now = CountsFault before now
CountsError OutOfMemory before now = now ≡ before

abbrev pub CountsReading : Result (List ℕ) ReadError → ℕ → ℕ → Type 0
CountsReading result before now = MatchResult result (λ _. now ≡ before) (λ error. CountsError error before now)
