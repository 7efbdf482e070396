-- The words of a live run. The promise of `live` rests on this file.
use Rattle.std.specs.Prelude.{◌≡◌, ℕ, ◌≤◌, List, [], ◌∷◌, codes}
use Rattle.std.specs.Fmt.{decimal}
use Rattle.hex.specs.Hex.{encode_lower}
use Rattle.faust_types.specs.Bytes.{AreBytes, IsKey}
use Rattle.faust_types.specs.declared.config.Config.{Config}
use Rattle.faust_outcome.specs.declared.words.LiveCommand.{LiveCommand}
use Rattle.faust_outcome.specs.declared.words.Detail.{Detail}
use Rattle.faust_outcome.specs.declared.words.Detail.TheVariants.{Short, Full}

-- How much is told: a few numbers, or the report.
abbrev pub detail_word : Detail → List ℕ
detail_word Short = codes "short"
detail_word Full = codes "full"

-- `live CLIENTS OPS KEY short`, or `live CLIENTS OPS KEY full`.
abbrev pub words_of : LiveCommand → List (List ℕ)
words_of command =
    codes "live" ∷ decimal command.clients ∷ decimal command.ops ∷ encode_lower command.key ∷ detail_word command.detail ∷ []

-- 2 to 8 clients, of which each user makes 1 to 1,000 operations, with a key of 1 to 128 bytes.
pub record IsInRange (command : LiveCommand) : Type 0 where
  pub two_clients : 2 ≤ command.clients
  pub few_clients : command.clients ≤ 8
  pub one_operation : 1 ≤ command.ops
  pub few_operations : command.ops ≤ 1000
  pub key_sized : IsKey command.key
  pub key_bytes : AreBytes command.key

-- The words are the form of the command, letter by letter.
pub record IsForm (words : List (List ℕ)) (command : LiveCommand) : Type 0 where
  pub words_are : words ≡ words_of command
  pub in_range : IsInRange command

abbrev pub IsNoForm : List (List ℕ) → Type 0
IsNoForm words = (command : LiveCommand) → IsForm words command → ⊥

-- What the clients share: a version is stale after 200 moments, and an idle client reads after 50.
abbrev pub config_of : LiveCommand → Config
config_of command = record { clients = command.clients; key = command.key; delta = 200; dummy = 50; wire = 1 }
