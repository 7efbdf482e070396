-- What is gathered when all have ended. The promise of `live` rests on this file.
use Rattle.std.specs.Prelude.{◌≡◌, ◌*◌, ◌≤◌, length}
use Rattle.faust_record.specs.Journals.{AreJournals}
use Rattle.faust_record.specs.Merging.{AreEachBelow, AreOfConfig, gathered, numbers_of}
use Rattle.faust_outcome.specs.declared.gathered.Gathered.{Gathered}
use Rattle.faust_outcome.specs.declared.words.LiveCommand.{LiveCommand}
use Rattle.faust_outcome.specs.UserLists.{AreAllTold}
use Rattle.faust_outcome.specs.Words.{config_of}

-- The journals of as many clients as the command says, with its config; what arrived at the server; and what each user
-- was told. The numbers of all entries and arrivals are those below some m, each once.
pub record IsGathered (command : LiveCommand) (it : Gathered) : Type 0 where
  pub as_many : length it.journals ≡ command.clients
  pub kept : AreJournals it.journals
  pub one_config : AreOfConfig (config_of command) it.journals
  pub few_arrivals : length it.arrivals ≤ command.clients * 200000
  pub numbered : AreEachBelow (numbers_of (gathered it.journals it.arrivals))
  pub as_many_users : length it.receipts ≡ command.clients
  pub told : AreAllTold command.clients command.ops 1 it.receipts
