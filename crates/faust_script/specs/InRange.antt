-- Which scripts are in range: what those who play or make scripts may count on; `parse` promises it.
use Rattle.std.specs.Prelude.{◌≡◌, ℕ, ◌≤◌, ◌⊎◌, List, length}
use Rattle.std.specs.List.{AllByRecursion}
use Rattle.faust_types.specs.Bytes.{AreBytes, IsValue}
use Rattle.faust_types.specs.Clients.{IsClient}
use Rattle.faust_types.specs.Ranges.{IsConfig, IsMoment, IsOperationNumber}
use Rattle.faust_script.specs.declared.event.Event.{Event}
use Rattle.faust_script.specs.declared.event.Event.TheVariants as event
use Rattle.faust_script.specs.declared.edit.Edit.{Edit}
use Rattle.faust_script.specs.declared.edit.Edit.TheVariants as edit
use Rattle.faust_script.specs.declared.script.Script.{Script}

-- The place of a message, a reply or a tuple.
pub record IsPlace (place : ℕ) : Type 0 where
  pub from_one : 1 ≤ place
  pub to_20000 : place ≤ 20000

-- The number of a branch.
abbrev pub IsBranch : ℕ → Type 0
IsBranch branch = branch ≤ 7

-- The bytes of a message.
pub record IsMessageBytes (bytes : List ℕ) : Type 0 where
  pub sized : length bytes ≤ 16384
  pub bytes_each : AreBytes bytes

-- An edit for n clients.
abbrev pub IsEditFor : ℕ → Edit → Type 0
IsEditFor n (edit.C k) = IsClient n k
IsEditFor n (edit.V k t) = IsClient n k × IsOperationNumber t
IsEditFor n (edit.M k) = IsClient n k
IsEditFor n edit.Ctag = Unit {0}
IsEditFor n (edit.Add k kind j) = IsClient n k × IsClient n j
IsEditFor n (edit.DropTuple q) = IsPlace q
IsEditFor n (edit.Swap q) = IsPlace q
IsEditFor n (edit.Ltag q) = IsPlace q
IsEditFor n (edit.Proof k) = IsClient n k
IsEditFor n (edit.Noproof k) = IsClient n k
IsEditFor n (edit.Jv k t) = IsClient n k × IsOperationNumber t
IsEditFor n edit.Jtag = Unit {0}
IsEditFor n (edit.T t) = IsOperationNumber t
IsEditFor n (edit.Value value) = IsValue value
IsEditFor n edit.Dtag = Unit {0}
IsEditFor n edit.Unread = Unit {0}

-- An event for n clients.
abbrev pub IsEventFor : ℕ → Event → Type 0
IsEventFor n (event.Write i value) = IsClient n i × IsValue value
IsEventFor n (event.Read i j) = IsClient n i × IsClient n j
IsEventFor n (event.Arrive i) = IsClient n i
IsEventFor n (event.Reply i) = IsClient n i
IsEventFor n (event.Tick i m) = IsClient n i × IsMoment m
IsEventFor n (event.Peer i j k) = IsClient n i × IsClient n j × IsPlace k
IsEventFor n (event.Post j bytes) = IsClient n j × IsMessageBytes bytes
IsEventFor n (event.Branch a b) = IsBranch a × IsBranch b
IsEventFor n (event.Route i b) = IsClient n i × IsBranch b
IsEventFor n (event.Echo i k b) = IsClient n i × IsPlace k × IsBranch b
IsEventFor n (event.Again i k) = IsClient n i × IsPlace k
IsEventFor n (event.Edited i made) = IsClient n i × IsEditFor n made
IsEventFor n (event.Forged i made) = IsClient n i × IsEditFor n made
IsEventFor n (event.Raw i bytes) = IsClient n i × IsMessageBytes bytes

-- A format, 1 or 2, and the wire's version under it: format 1 means wire 1.
abbrev pub IsFormat : ℕ → ℕ → Type 0
IsFormat format wire = ((format ≡ 1) × (wire ≡ 1)) ⊎ (format ≡ 2)

pub record IsScript (script : Script) : Type 0 where
  pub format_known : IsFormat script.format script.config.wire
  pub config_in_range : IsConfig script.config
  pub events_in_range : AllByRecursion (IsEventFor script.config.clients) script.events
  pub few_events : length script.events ≤ 20000
