-- What is said of the parts of messages, besides their ranges.
use Rattle.std.specs.Prelude.{ℕ, ◌==◌, suc, cond, List, [], ◌∷◌, Option, Some, None, replicate}
use Rattle.faust_types.specs.Versions.{initial}
use Rattle.faust_types.specs.declared.message.Known.{Known}
use Rattle.faust_types.specs.declared.message.Tuple.{Tuple}
use Rattle.faust_types.specs.declared.message.Mem.{Mem}

-- The initial version of n clients, which nobody made.
abbrev pub unmade : ℕ → Known
unmade n = record { maker = 0; version = initial n; tag = replicate 32 0 }

-- The value in memory, if any.
abbrev pub value_of : Option Mem → Option (List ℕ)
value_of None = None
value_of (Some mem) = mem.value

-- How many of the tuples are by client k.
abbrev pub tuples_by : ℕ → List Tuple → ℕ
tuples_by k [] = 0
tuples_by k (tuple ∷ rest) = cond (tuple.client == k) (suc (tuples_by k rest)) (tuples_by k rest)
