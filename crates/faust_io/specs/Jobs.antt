-- Jobs that run beside one another, and what they answer. The promises on spawners rest on these.
use Rattle.std.specs.Prelude.{◌≡◌, ℕ, List, [], ◌∷◌, Result, MatchResult}
use Rattle.faust_io.specs.Faults.{CountsFault}
use Rattle.faust_io.specs.declared.failed.StartError.{StartError}
use Rattle.faust_io.specs.declared.failed.StartError.TheVariants.{Failed, OutOfMemory}

-- There are as many answers as jobs, and the k-th answer is one that the k-th job gives.
abbrev pub AnswersEach : {J Out : Type 0} → (J → Out → Type 0) → List J → List Out → Type 0
AnswersEach gives [] [] = Unit {0}
AnswersEach gives [] (answer ∷ answers) = ⊥
AnswersEach gives (job ∷ jobs) [] = ⊥
AnswersEach gives (job ∷ jobs) (answer ∷ answers) = gives job answer × AnswersEach gives jobs answers

-- What running jobs does to the count: it stands still unless a start was refused.
abbrev pub CountsStartError : StartError → ℕ → ℕ → Type 0
CountsStartError Failed before now = CountsFault before now
CountsStartError OutOfMemory before now = now ≡ before

abbrev pub CountsStart : {T : Type 0} → Result T StartError → ℕ → ℕ → Type 0
CountsStart result before now = MatchResult result (λ _. now ≡ before) (λ error. CountsStartError error before now)
