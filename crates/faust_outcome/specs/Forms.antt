-- The command of words, as a function. No promise rests on this: `specs/Words.antt` says the same as facts.
use Rattle.std.specs.Prelude.{ℕ, List, [], ◌∷◌, codes, Option, Some, None, if◌then◌else◌}
use Rattle.std.specs.Str.{bytes_eq}
use Rattle.faust_text.specs.Numbers.{number_between}
use Rattle.faust_text.specs.Values.{hex_of}
use Rattle.faust_outcome.specs.declared.words.Detail.{Detail}
use Rattle.faust_outcome.specs.declared.words.Detail.TheVariants.{Short, Full}
use Rattle.faust_outcome.specs.declared.words.LiveCommand.{LiveCommand}

abbrev pub not_empty : Option (List ℕ) → Option (List ℕ)
not_empty None = None
not_empty (Some []) = None
not_empty (Some (byte ∷ bytes)) = Some (byte ∷ bytes)

abbrev pub key_of : List ℕ → Option (List ℕ)
key_of word = not_empty (hex_of 128 word)

abbrev pub detail_of : List ℕ → Option Detail
detail_of word = if bytes_eq word (codes "short") then Some Short else if bytes_eq word (codes "full") then Some Full else None

abbrev pub command_with : Option ℕ → Option ℕ → Option (List ℕ) → Option Detail → Option LiveCommand
command_with None ops key detail = None
command_with (Some clients) None key detail = None
command_with (Some clients) (Some ops) None detail = None
command_with (Some clients) (Some ops) (Some key) None = None
command_with (Some clients) (Some ops) (Some key) (Some detail) =
    Some (record { clients = clients; ops = ops; key = key; detail = detail })

abbrev pub live_command : List ℕ → List ℕ → List ℕ → List ℕ → List ℕ → Option LiveCommand
live_command word clients ops key detail =
    if bytes_eq word (codes "live")
    then command_with (number_between clients 2 8) (number_between ops 1 1000) (key_of key) (detail_of detail)
    else None

abbrev pub command_of : List (List ℕ) → Option LiveCommand
command_of [] = None
command_of (word ∷ []) = None
command_of (word ∷ clients ∷ []) = None
command_of (word ∷ clients ∷ ops ∷ []) = None
command_of (word ∷ clients ∷ ops ∷ key ∷ []) = None
command_of (word ∷ clients ∷ ops ∷ key ∷ detail ∷ []) = live_command word clients ops key detail
command_of (word ∷ clients ∷ ops ∷ key ∷ detail ∷ more ∷ words) = None
