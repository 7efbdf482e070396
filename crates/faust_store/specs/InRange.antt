-- What callers of single steps owe: that a line's entry is in range, and what was read of a head.
use Rattle.std.specs.Prelude.{◌≡◌, ◌⊎◌, ℕ, List}
use Rattle.faust_types.specs.Bytes.{AreBytes, IsKey, IsValue}
use Rattle.faust_types.specs.Clients.{IsClient, IsClientCount}
use Rattle.faust_types.specs.Ranges.{IsMoment, IsSpan, IsWire}
use Rattle.faust_text.specs.declared.head.Formats.{Formats}
use Rattle.faust_text.specs.declared.head.Head.{Head}
use Rattle.faust_text.specs.declared.head.Head.TheVariants as heads
use Rattle.faust_record.specs.Entries.{AreHandedIn}
use Rattle.faust_record.specs.declared.run_record.PushInput.{PushInput}
use Rattle.faust_record.specs.declared.run_record.PushInput.TheVariants as inputs
use Rattle.faust_store.specs.declared.entry_line.EntryLine.{EntryLine}
use Rattle.faust_store.specs.declared.entry_line.EntryLine.TheVariants as said
use Rattle.faust_store.specs.declared.stage.Stage.{Stage}
use Rattle.faust_store.specs.declared.stage.Stage.TheVariants as stages

-- What comes to one of n clients.
abbrev pub IsSaidFor : ℕ → PushInput → Type 0
IsSaidFor n (inputs.Write value) = IsValue value
IsSaidFor n (inputs.Read register) = IsClient n register
IsSaidFor n (inputs.Reply bytes) = AreHandedIn bytes
IsSaidFor n (inputs.Peer bytes) = AreHandedIn bytes
IsSaidFor n (inputs.Tick moment) = IsMoment moment
IsSaidFor n inputs.Arrive = Unit {0}

-- What a line says, for n clients.
abbrev pub IsLineFor : ℕ → EntryLine → Type 0
IsLineFor n (said.Comes i input) = IsClient n i × IsSaidFor n input
IsLineFor n (said.Arrives i message) = IsClient n i

-- What was read of a head.
abbrev pub AreFormats : Formats → Type 0
AreFormats formats = ((formats.text ≡ 1) × (formats.wire ≡ 1)) ⊎ ((formats.text ≡ 2) × IsWire formats.wire)

pub record IsHeadKey (key : List ℕ) : Type 0 where
  pub sized : IsKey key
  pub bytes_each : AreBytes key

abbrev pub IsHead : Head → Type 0
IsHead heads.Title = Unit {0}
IsHead heads.Wire = Unit {0}
IsHead (heads.Clients formats) = AreFormats formats
IsHead (heads.Key formats n) = AreFormats formats × IsClientCount n
IsHead (heads.Delta formats n key) = AreFormats formats × IsClientCount n × IsHeadKey key
IsHead (heads.Dummy formats n key delta) = AreFormats formats × IsClientCount n × IsHeadKey key × IsSpan delta

abbrev pub IsStage : Stage → Type 0
IsStage (stages.Head head) = IsHead head
IsStage (stages.Entries version run) = Unit {0}
IsStage (stages.Ended run) = Unit {0}
