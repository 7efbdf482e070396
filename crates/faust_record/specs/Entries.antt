-- What comes to a client of a run, when it may come, and what the client's table then gives: every promise of this
-- crate rests on it.
use Rattle.std.specs.Prelude.{◌≡◌, ℕ, ◌≤◌, true, false, List, [], ◌∷◌, length}
use Rattle.faust_types.specs.Clients.{IsClient}
use Rattle.faust_types.specs.Outcomes.{nothing}
use Rattle.faust_types.specs.Ranges.{AreBytes, IsMoment, IsValue}
use Rattle.faust_types.specs.declared.config.Config.{Config}
use Rattle.faust_types.specs.declared.outcome.Outcome.{Outcome}
use Rattle.faust_agent.specs.State.{Member, first_client, is_idle}
use Rattle.faust_agent.specs.Deeds.{Event, asked, passed, peer_in, read_of, replied, reply_in, ticked, told, write_of}
use Rattle.faust_agent.specs.Table.{after, deed_of}
use Rattle.faust_agent.specs.Outcomes.{outcome_of}
use Rattle.faust_agent.specs.declared.client.Client.{Client}
use Rattle.faust_agent.specs.declared.deed.Deed.{Deed}
use Rattle.faust_record.specs.declared.entry.Input.{Input}
use Rattle.faust_record.specs.declared.entry.Input.TheVariants as inputs
use Rattle.faust_record.specs.declared.entry.Entry.{Entry}

-- The event that an input is at client me. An arrival happens at the server: at its client it is nothing.
abbrev pub event_of : Config → ℕ → Input → Event
event_of config me (inputs.Write value) = asked (write_of me value)
event_of config me (inputs.Read register) = asked (read_of register false)
event_of config me (inputs.Reply bytes) = replied (reply_in config bytes)
event_of config me (inputs.Peer bytes) = told (peer_in config bytes)
event_of config me (inputs.Tick moment) = ticked moment
event_of config me (inputs.Arrive message) = passed

-- What client me, which holds st, does at an input; what it gives then, and what it holds.
abbrev pub deed_at : Config → ℕ → Client → Input → Deed
deed_at config me st input = deed_of config me st (event_of config me input)

unfoldable pub outcome_at : Config → ℕ → Client → Input → Outcome
outcome_at config me st input = outcome_of config me st (deed_at config me st input)

unfoldable pub state_at : Config → ℕ → Client → Input → Client
state_at config me st input = after config me st (deed_at config me st input)

-- Bytes that are handed in as a message, and needn't spell one.
pub record AreHandedIn (bytes : List ℕ) : Type 0 where
  pub sized : length bytes ≤ 16384
  pub bytes_each : AreBytes bytes

-- A user may begin an operation where the client is idle: a write of a value, a read of one of n registers.
pub record MayWrite (me : ℕ) (st : Client) (value : List ℕ) : Type 0 where
  pub idle : is_idle me st ≡ true
  pub value_in_range : IsValue value

pub record MayRead (n me : ℕ) (st : Client) (register : ℕ) : Type 0 where
  pub idle : is_idle me st ≡ true
  pub register_in_range : IsClient n register

-- What may come to client me that holds st. Which message may arrive is said of the whole run.
abbrev pub MayCome : Config → ℕ → Client → Input → Type 0
MayCome config me st (inputs.Write value) = MayWrite me st value
MayCome config me st (inputs.Read register) = MayRead config.clients me st register
MayCome config me st (inputs.Reply bytes) = AreHandedIn bytes
MayCome config me st (inputs.Peer bytes) = AreHandedIn bytes
MayCome config me st (inputs.Tick moment) = IsMoment moment
MayCome config me st (inputs.Arrive message) = Unit {0}

-- The entry of an input, with the outcome of the client's table; and that of a message that arrives.
abbrev pub entry_at : Config → ℕ → Client → ℕ → Input → Entry
entry_at config me st number input = record {
  number = number;
  client = me;
  input = input;
  outcome = outcome_at config me st input;
}

abbrev pub arrival_at : ℕ → ℕ → List ℕ → Entry
arrival_at i number message = record {
  number = number;
  client = i;
  input = inputs.Arrive message;
  outcome = nothing;
}

-- What client me holds after entries of its own, from st on, and from the first; and the client then.
abbrev pub replayed : Config → ℕ → Client → List Entry → Client
replayed config me st [] = st
replayed config me st (entry ∷ rest) = replayed config me (state_at config me st entry.input) rest

abbrev pub replay : Config → ℕ → List Entry → Client
replay config me entries = replayed config me (first_client config.clients me) entries

abbrev pub member_after : Config → ℕ → List Entry → Member
member_after config me entries = record { config = config; me = me; client = replay config me entries }

-- An entry is a step of client me that holds st: its input may come, and its outcome is the table's.
pub record IsStep (config : Config) (me : ℕ) (st : Client) (entry : Entry) : Type 0 where
  pub may_come : MayCome config me st entry.input
  pub outcome_is : entry.outcome ≡ outcome_at config me st entry.input

-- Entries obey the table of client me from st on: each is a step of what the client holds then.
abbrev pub Obeys : Config → ℕ → Client → List Entry → Type 0
Obeys config me st [] = Unit {0}
Obeys config me st (entry ∷ rest) =
    IsStep config me st entry × Obeys config me (state_at config me st entry.input) rest
