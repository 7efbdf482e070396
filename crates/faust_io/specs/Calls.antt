-- The calls of an object in memory, some of which are to fail.
use Rattle.std.specs.Prelude.{ℕ, ◌+◌, ◌-◌, ◌^◌, ◌<◌, ◌≤◌, min, List, Contains}
use Rattle.faust_io.specs.declared.calls.Calls.{Calls}

-- One more, but no more than 64 bits hold.
abbrev pub next : ℕ → ℕ
next count = min (count + 1) (2 ^ 64 - 1)

abbrev pub no_calls : List ℕ → Calls
no_calls failing = record { made = 0; failing = failing; faults = 0 }

-- The next call is one of those that fail.
abbrev pub IsNextFailing : Calls → Type 0
IsNextFailing calls = Contains calls.failing (next calls.made)

abbrev pub after_success : Calls → Calls
after_success calls = record calls { made = next calls.made }

abbrev pub after_failure : Calls → Calls
after_failure calls = record calls { made = next calls.made; faults = next calls.faults }

-- The number of the k-th of the next calls, from 1.
abbrev pub number_of : Calls → ℕ → ℕ
number_of calls k = min (calls.made + k) (2 ^ 64 - 1)

-- Of the wanted calls that come next the first count succeed, and the one behind them fails if it is wanted.
pub record Admits (calls : Calls) (wanted count : ℕ) : Type 0 where
  pub passed : (k : ℕ) → 1 ≤ k → k ≤ count → ¬ (Contains calls.failing (number_of calls k))
  pub refused : count < wanted → Contains calls.failing (number_of calls (count + 1))

-- After these calls: those that succeed, and the one that fails.
abbrev pub after_admitted : Calls → ℕ → ℕ → Calls
after_admitted calls wanted count = record calls { made = number_of calls (min wanted (count + 1)) }

-- After a call, made already, that turned out to fail.
abbrev pub after_fault : Calls → Calls
after_fault calls = record calls { faults = next calls.faults }
