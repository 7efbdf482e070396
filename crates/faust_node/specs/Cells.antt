-- What stands behind a client's lock, and what it keeps at each moment: every promise of this crate rests on it.
use Rattle.std.specs.Prelude.{◌≡◌, ◌+◌, ◌^◌, ℕ, List, [], ◌∷◌, ◌++◌, length, Option, Some, None, nat_lt, if◌then◌else◌}
use Rattle.faust_types.specs.declared.arrival.Closing.{Closing}
use Rattle.faust_types.specs.declared.arrival.Closing.TheVariants as closings
use Rattle.faust_types.specs.declared.config.Config.{Config}
use Rattle.faust_types.specs.declared.operation.Notice.{Notice}
use Rattle.faust_agent.specs.declared.client.Client.{Client}
use Rattle.faust_ticket.specs.Holders.{SeatView, first_seat}
use Rattle.faust_record.specs.Entries.{replay}
use Rattle.faust_record.specs.Journals.{Log, first_log}
use Rattle.faust_record.specs.Merging.{numbers_of}
use Rattle.faust_node.specs.declared.error.NodeError.{NodeError}
use Rattle.faust_node.specs.declared.error.NodeError.TheVariants as errors

-- A cell: the client's journal, the seat that draws its numbers, and the cause that closed it, if it is closed.
pub record Cell : Type 0 where
  pub log : Log
  pub seat : SeatView
  pub closed : Option Closing

abbrev pub first_cell : Config → ℕ → Cell
first_cell config me = record { log = first_log config me; seat = first_seat; closed = None }

-- The numbers of the journal are those that the seat drew. Where a number was drawn and no memory was found then, one
-- more was drawn, and the cell is closed with `Memory`.
pub data HasNumbers (numbers drawn : List ℕ) (closed : Option Closing) : Type 0 where
  each_drawn : drawn ≡ numbers → HasNumbers numbers drawn closed
  one_more : (x : ℕ) → drawn ≡ numbers ++ x ∷ [] → closed ≡ Some closings.Memory → HasNumbers numbers drawn closed

-- What every cell of a run with this config keeps. That its agent is the replay of the journal is kept by the journal.
pub record IsCell (config : Config) (cell : Cell) : Type 0 where
  pub of_config : cell.log.config ≡ config
  pub numbered : HasNumbers (numbers_of cell.log.entries) cell.seat.drawn cell.closed
  pub spare_left : cell.seat.spare + length cell.seat.drawn ≡ 2 ^ 32

-- What the client holds after its entries.
abbrev pub held_by : Log → Client
held_by log = replay log.config log.me log.entries

-- Why the cell begins nothing: the notice of its client, else the cause that closed it, else a full journal.
abbrev pub refused_by : Option Notice → Option Closing → ℕ → Option NodeError
refused_by (Some notice) closed count = Some (errors.Failed notice)
refused_by None (Some cause) count = Some (errors.Closed cause)
refused_by None None count = if nat_lt count 200000 then None else Some errors.Full

abbrev pub refusal_of : Cell → Option NodeError
refusal_of cell = refused_by (held_by cell.log).notice cell.closed (length cell.log.entries)

-- The cause of a closed cell stays, but `Memory` takes the place of any.
abbrev pub closed_after : Option Closing → Closing → Option Closing
closed_after None cause = Some cause
closed_after (Some first) closings.Asked = Some first
closed_after (Some first) (closings.Failed notice) = Some first
closed_after (Some first) closings.Ended = Some first
closed_after (Some first) closings.Link = Some first
closed_after (Some first) closings.Malformed = Some first
closed_after (Some first) (closings.Named client) = Some first
closed_after (Some first) (closings.Turn expected got) = Some first
closed_after (Some first) closings.Full = Some first
closed_after (Some first) closings.Memory = Some closings.Memory

abbrev pub closed_by : Cell → Closing → Cell
closed_by cell cause = record cell { closed = closed_after cell.closed cause }

-- Why a loop that serves a cell stops, where the cell is closed: it was asked to, unless the client has a notice.
abbrev pub cause_of : Option Notice → Closing
cause_of (Some notice) = closings.Failed notice
cause_of None = closings.Asked

abbrev pub stopped_by : Option Notice → Option Closing → Option Closing
stopped_by notice None = None
stopped_by notice (Some cause) = Some (cause_of notice)

abbrev pub stop_of : Cell → Option Closing
stop_of cell = stopped_by (held_by cell.log).notice cell.closed
