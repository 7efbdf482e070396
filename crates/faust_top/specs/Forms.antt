-- The command of words, as a function. No promise rests on this: `specs/Commands.antt` says the same as facts.
use Rattle.std.specs.Prelude.{ℕ, List, [], ◌∷◌, codes, Option, Some, None, if◌then◌else◌}
use Rattle.std.specs.List.{find}
use Rattle.std.specs.Str.{bytes_eq}
use Rattle.faust_text.specs.Numbers.{number_between, number_of}
use Rattle.faust_top.specs.declared.words.Command.{Command}
use Rattle.faust_top.specs.declared.words.Command.TheVariants as commands
use Rattle.faust_top.specs.Commands.{word_of}

abbrev pub plain_commands : List Command
plain_commands = commands.Script ∷ commands.Record ∷ commands.Audit ∷ commands.Json ∷ commands.Migrate ∷ []

abbrev pub plain_command : List ℕ → Option Command
plain_command word = find (λ command. bytes_eq (word_of command) word) plain_commands

abbrev pub sample_of : Option ℕ → Option ℕ → Option ℕ → Option Command
sample_of None clients ops = None
sample_of (Some seed) None ops = None
sample_of (Some seed) (Some clients) None = None
sample_of (Some seed) (Some clients) (Some ops) = Some (commands.Sample seed clients ops)

abbrev pub sample_command : List ℕ → List ℕ → List ℕ → List ℕ → Option Command
sample_command word seed clients ops =
    if bytes_eq word (codes "sample")
    then sample_of (number_of seed) (number_between clients 2 32) (number_between ops 1 3000)
    else None

abbrev pub command_of : List (List ℕ) → Option Command
command_of [] = None
command_of (word ∷ []) = plain_command word
command_of (word ∷ seed ∷ []) = None
command_of (word ∷ seed ∷ clients ∷ []) = None
command_of (word ∷ seed ∷ clients ∷ ops ∷ []) = sample_command word seed clients ops
command_of (word ∷ seed ∷ clients ∷ ops ∷ more ∷ words) = None
