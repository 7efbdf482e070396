-- Who takes part in a live run, and what they leave. The promise of `live` rests on what they leave.
use Rattle.std.specs.Prelude.{◌≡◌, ℕ, ◌+◌, ◌*◌, ◌^◌, ◌≤◌, List, [], length}
use Rattle.faust_types.specs.Ranges.{IsConfig}
use Rattle.faust_types.specs.declared.arrival.Arrival.{Arrival}
use Rattle.faust_types.specs.declared.config.Config.{Config}
use Rattle.faust_ticket.specs.Holders.{RootView}
use Rattle.faust_record.specs.Journals.{AreJournals, Log}
use Rattle.faust_record.specs.Merging.{AreEachBelow, AreOfConfig, gathered, logged_in, numbers_of}
use Rattle.faust_node.specs.declared.receipt.Receipt.{Receipt}
use Rattle.faust_outcome.specs.UserLists.{AreAllTold}

-- A config for so many clients at most as a live run has.
pub record IsLiveConfig (config : Config) : Type 0 where
  pub in_range : IsConfig config
  pub few : config.clients ≤ 8

-- The journals of all clients of this config, and what arrived: all entries together have the numbers below some m, each
-- once.
pub record AreParts (config : Config) (journals : List Log) (arrivals : List Arrival) : Type 0 where
  pub as_many : length journals ≡ config.clients
  pub kept : AreJournals journals
  pub one_config : AreOfConfig config journals
  pub few_arrivals : length arrivals ≤ config.clients * 200000
  pub numbered : AreEachBelow (numbers_of (gathered journals arrivals))

-- What all users were told.
pub record AreUsersTold (n ops : ℕ) (receipts : List (List Receipt)) : Type 0 where
  pub as_many : length receipts ≡ n
  pub told : AreAllTold n ops 1 receipts

-- The root while it splits seats off: so many are out, and none drew.
pub record IsSplitting (root : RootView) (seats : ℕ) : Type 0 where
  pub none_drawn : root.drawn ≡ []
  pub out : root.out ≡ seats
  pub spare : root.spare + seats * 2 ^ 32 ≡ 2 ^ 40

-- The root while it takes them back: these are still out, and the numbers of the others are those of the journals.
pub record IsJoining (config : Config) (root : RootView) (seats : ℕ) (journals : List Log) : Type 0 where
  pub kept : AreJournals journals
  pub one_config : AreOfConfig config journals
  pub drawn : root.drawn ≡ numbers_of (logged_in journals)
  pub out : root.out ≡ seats
