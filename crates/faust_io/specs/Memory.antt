-- How a source and a sink in memory answer each call.
use Rattle.std.specs.Prelude.{◌≡◌, ℕ, ◌-◌, ◌<◌, ◌≤◌, min, List, [], ◌++◌, length, take, drop, ◌⊎◌}
use Rattle.faust_io.specs.declared.calls.Calls.{Calls}
use Rattle.faust_io.specs.Calls.{no_calls, IsNextFailing, after_success, after_failure}

-- A source: the bytes that are left, the most of one read, and the calls so far.
pub record SourceView : Type 0 where
  pub left : List ℕ
  pub most : ℕ
  pub calls : Calls

abbrev pub new_source : List ℕ → ℕ → List ℕ → SourceView
new_source bytes most failing = record { left = bytes; most = most; calls = no_calls failing }

-- How many bytes a read gives into a buffer with this room.
abbrev pub read_count : SourceView → ℕ → ℕ
read_count source room = min (min room source.most) (length source.left)

-- After a read that gave count bytes, and after one that failed.
abbrev pub after_read : SourceView → ℕ → SourceView
after_read source count = record source { left = drop count source.left; calls = after_success source.calls }

abbrev pub after_failed_read : SourceView → SourceView
after_failed_read source = record source { calls = after_failure source.calls }

-- A sink: what it holds, the room for all of it, the most of one write, and the calls so far.
pub record SinkView : Type 0 where
  pub held : List ℕ
  pub room : ℕ
  pub most : ℕ
  pub calls : Calls

abbrev pub new_sink : ℕ → ℕ → List ℕ → SinkView
new_sink room most failing = record { held = []; room = room; most = most; calls = no_calls failing }

-- The next write fails: it is one of those that fail, or no room is left.
abbrev pub IsRefusing : SinkView → Type 0
IsRefusing sink = (length sink.held ≡ sink.room) ⊎ IsNextFailing sink.calls

-- How many bytes a write takes of a piece with this length.
abbrev pub write_count : SinkView → ℕ → ℕ
write_count sink len = min (min len sink.most) (sink.room - length sink.held)

-- After a write of a piece, and after one that failed.
abbrev pub after_write : SinkView → List ℕ → SinkView
after_write sink piece = record sink {
  held = sink.held ++ take (write_count sink (length piece)) piece;
  calls = after_success sink.calls;
}

abbrev pub after_failed_write : SinkView → SinkView
after_failed_write sink = record sink { calls = after_failure sink.calls }

-- What a sink keeps: its memory has the room, of which what it holds is a part.
pub record HasRoom (held : List ℕ) (room most capacity : ℕ) : Type 0 where
  pub within : length held ≤ room
  pub in_memory : room ≤ capacity
  pub some : 0 < most
