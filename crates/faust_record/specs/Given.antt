-- What an entry gave, wherever it lies. No promise rests on it: callers see an outcome.
use Rattle.std.specs.Prelude.{Option, Some, None}
use Rattle.std.specs.Global.{Global}
use Rattle.std.specs.declared.boxed.Box.{Box}
use Rattle.faust_types.specs.Outcomes.{nothing}
use Rattle.faust_types.specs.declared.outcome.Outcome.{Outcome}

-- The outcome that is held, and the one that gave nothing where none is.
abbrev pub outcome_of : Option (Box Outcome Global) → Outcome
outcome_of None = nothing
outcome_of (Some held) = held.value
