-- What a run with the config of a command leaves is what is gathered for it.
use Rattle.std.proofs.Common.{◌≡◌, ◌≤◌, sym, subst}
use Rattle.faust_types.specs.Ranges.{IsConfig}
use Rattle.faust_types.specs.declared.config.Config.{Config}
use Rattle.faust_outcome.specs.Gathering.{IsGathered}
use Rattle.faust_outcome.specs.Words.{IsInRange, config_of}
use Rattle.faust_outcome.specs.declared.gathered.Gathered.{Gathered}
use Rattle.faust_outcome.specs.declared.words.LiveCommand.{LiveCommand}
use Rattle.faust_cluster.specs.Casting.{AreParts, AreUsersTold, IsLiveConfig}

pub live-config : (command : LiveCommand) (config : Config) → IsInRange command → config ≡ config_of command → IsConfig config
    → IsLiveConfig config
live-config command config range is kept = record {
  in_range = kept;
  few = subst (λ (c : Config). c.clients ≤ 8) (sym is) range.few_clients;
}

gathered-so : (command : LiveCommand) (it : Gathered) → AreParts (config_of command) it.journals it.arrivals
    → AreUsersTold command.clients command.ops it.receipts → IsGathered command it
gathered-so command it parts told = record {
  as_many = parts.as_many;
  kept = parts.kept;
  one_config = parts.one_config;
  few_arrivals = parts.few_arrivals;
  numbered = parts.numbered;
  as_many_users = told.as_many;
  told = told.told;
}

pub is-gathered : (command : LiveCommand) (config : Config) (it : Gathered) → config ≡ config_of command
    → AreParts config it.journals it.arrivals → AreUsersTold config.clients command.ops it.receipts → IsGathered command it
is-gathered command config it is parts told =
    gathered-so command it (subst (λ (c : Config). AreParts c it.journals it.arrivals) is parts)
    (subst (λ (c : Config). AreUsersTold c.clients command.ops it.receipts) is told)
