-- What is promised of a run holds of that of each input.
use Rattle.std.proofs.Common.{ℕ, List, Option, None, Some, arith}
use Rattle.faust_verdict.proofs.Promising.{promises-of}
use Rattle.faust_top.specs.declared.words.Command.{Command}
use Rattle.faust_top.specs.Answer.{IsOver, IsWithin, Promises}
use Rattle.faust_top.specs.Commands.{limit_of}
use Rattle.faust_top.specs.Output.{AreRuns}

pub promised : (command : Command) (input : List ℕ) → AreRuns command input → Promises command input
unfolding Promises AreRuns
promised command input runs = λ taken is. promises-of taken.run (runs taken is.accepted_is)

-- an input that is too long has no run
no_both : (limit : Option ℕ) (input : List ℕ) → IsOver limit input → IsWithin limit input → ⊥
no_both None input over within = over
no_both (Some most) input over within = omega (arith, over, within)

pub promised_too_long : (command : Command) (input : List ℕ) → IsOver (limit_of command) input → Promises command input
unfolding Promises
promised_too_long command input over = λ taken is.
    absurd (no_both (limit_of command) input over is.not_too_long)
