-- A stream over a source and one over a sink, as contracts see them, and why their calls fail.
use Rattle.std.specs.Prelude.{◌≡◌, ℕ, List, [], ◌∷◌, Bool, true, false, Option, IfSome}
use Rattle.std.specs.Io.KnownBytes.{prepend_known}
use Rattle.faust_io.specs.Faults.{CountsFault}
use Rattle.faust_link.specs.Frames.{spelling_of, IsBroken}

-- A reader of frames: its source, a frame that was read and isn't handed out yet (no bytes where there is none),
-- whether no call was refused, and its counts.
pub record ReaderView (S : Type 0) : Type 0 where
  pub source : S
  pub held : List ℕ
  pub is_open : Bool
  pub faults : ℕ
  pub ends : ℕ

abbrev pub new_reader : {S : Type 0} → S → ReaderView S
new_reader source = record { source = source; held = []; is_open = true; faults = 0; ends = 0 }

-- The bytes of the stream that stand in front of those of the source: the frame that isn't handed out yet.
abbrev pub waiting : List ℕ → List ℕ
waiting [] = []
waiting (byte ∷ bytes) = spelling_of (byte ∷ bytes)

-- The bytes of the stream that are to come, where the source tells what it has left.
abbrev pub left_of : {S : Type 0} → (S → Option (List ℕ)) → ReaderView S → Option (List ℕ)
left_of left reader = prepend_known (waiting reader.held) (left reader.source)

-- Why a `recv` fails: an earlier one was refused, or the source failed in this call, or the bytes that are left,
-- where they are told, go on with no frame.
pub data RecvFails (is_open : Bool) (left : Option (List ℕ)) (before now : ℕ) : Type 0 where
  refused_before : is_open ≡ false → RecvFails is_open left before now
  source_failed : CountsFault before now → RecvFails is_open left before now
  no_frame : IfSome left IsBroken → RecvFails is_open left before now

-- A writer of frames: its sink, whether it is neither closed nor failed, and its count.
pub record WriterView (K : Type 0) : Type 0 where
  pub sink : K
  pub is_open : Bool
  pub faults : ℕ

abbrev pub new_writer : {K : Type 0} → K → WriterView K
new_writer sink = record { sink = sink; is_open = true; faults = 0 }

-- Why a `send` fails: an earlier one failed or the stream was closed, or the sink failed in this call.
pub data SendFails (is_open : Bool) (before now : ℕ) : Type 0 where
  shut_before : is_open ≡ false → SendFails is_open before now
  sink_failed : CountsFault before now → SendFails is_open before now
