-- What the calls of links do to their counts. The causes of answers rest on this.
use Rattle.std.specs.Prelude.{◌≡◌, ℕ, ◌<◌, Result, Ok, Err, MatchResult}
use Rattle.faust_io.specs.Faults.{CountsFault}
use Rattle.faust_link.specs.declared.answers.Got.{Got}
use Rattle.faust_link.specs.declared.answers.Got.TheVariants.{Frame, Ended, Idle}
use Rattle.faust_link.specs.declared.answers.LinkError.{LinkError}
use Rattle.faust_link.specs.declared.answers.LinkError.TheVariants.{Failed, OutOfMemory}

-- The count of faults rises in a call that failed, and else stands still. Want of memory raises no count.
abbrev pub CountsError : LinkError → ℕ → ℕ → Type 0
CountsError Failed before now = CountsFault before now
CountsError OutOfMemory before now = now ≡ before

abbrev pub CountsLink : {T : Type 0} → Result T LinkError → ℕ → ℕ → Type 0
CountsLink result before now = MatchResult result (λ _. now ≡ before) (λ error. CountsError error before now)

-- The count of ends rises in a call that answered `Ended`, and else stands still.
abbrev pub CountsEnd : Result Got LinkError → ℕ → ℕ → Type 0
CountsEnd (Ok Frame) before now = now ≡ before
CountsEnd (Ok Ended) before now = CountsFault before now
CountsEnd (Ok Idle) before now = now ≡ before
CountsEnd (Err error) before now = now ≡ before

-- The count of a net after it took a link or a post back: it rises exactly where the count that came isn't 0.
pub record CountsBack (came before now : ℕ) : Type 0 where
  pub rises : 0 < came → CountsFault before now
  pub stands : came ≡ 0 → now ≡ before
