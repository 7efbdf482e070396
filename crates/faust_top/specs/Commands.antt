-- The commands: the words of each, and what it reads. The promise of `run` rests on this file.
use Rattle.std.specs.Prelude.{◌≡◌, ℕ, ◌^◌, ◌<◌, List, [], ◌∷◌, codes, Option, Some, None, IsSome}
use Rattle.std.specs.Fmt.{decimal}
use Rattle.faust_script.specs.Generated.{IsSampleSize}
use Rattle.faust_top.specs.declared.words.Command.{Command}
use Rattle.faust_top.specs.declared.words.Command.TheVariants as commands

-- The first word.
abbrev pub word_of : Command → List ℕ
word_of commands.Script = codes "script"
word_of commands.Record = codes "record"
word_of commands.Audit = codes "audit"
word_of commands.Json = codes "json"
word_of commands.Migrate = codes "migrate"
word_of (commands.Sample seed clients ops) = codes "sample"

-- The words behind it: the numbers of `sample` in decimal digits.
abbrev pub numbers_of : Command → List (List ℕ)
numbers_of commands.Script = []
numbers_of commands.Record = []
numbers_of commands.Audit = []
numbers_of commands.Json = []
numbers_of commands.Migrate = []
numbers_of (commands.Sample seed clients ops) = decimal seed ∷ decimal clients ∷ decimal ops ∷ []

-- The ranges of these numbers.
pub record IsSample (seed clients ops : ℕ) : Type 0 where
  pub seed_fits : seed < 2 ^ 64
  pub size : IsSampleSize clients ops

abbrev pub IsInRange : Command → Type 0
IsInRange commands.Script = Unit {0}
IsInRange commands.Record = Unit {0}
IsInRange commands.Audit = Unit {0}
IsInRange commands.Json = Unit {0}
IsInRange commands.Migrate = Unit {0}
IsInRange (commands.Sample seed clients ops) = IsSample seed clients ops

-- The words are the form of the command, letter by letter.
pub record IsForm (words : List (List ℕ)) (command : Command) : Type 0 where
  pub words_are : words ≡ word_of command ∷ numbers_of command
  pub in_range : IsInRange command

-- The words are the form of no command.
abbrev pub IsNoForm : List (List ℕ) → Type 0
IsNoForm words = (command : Command) → IsForm words command → ⊥

-- The most bytes of an input: of a script, and of a record. The command `sample` has no input.
abbrev pub limit_of : Command → Option ℕ
limit_of commands.Script = Some 1048576
limit_of commands.Record = Some 1048576
limit_of commands.Audit = Some 400000000
limit_of commands.Json = Some 1048576
limit_of commands.Migrate = Some 400000000
limit_of (commands.Sample seed clients ops) = None

-- The commands that read an input. Only they can refuse one.
abbrev pub IsReader : Command → Type 0
IsReader command = IsSome (limit_of command)
