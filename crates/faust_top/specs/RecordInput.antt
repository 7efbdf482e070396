-- How a record is read from its source piece by piece: what is known of the bytes so far. No promise rests on these:
-- `ReadsRun` says of the whole input what `ReadsInput` and `read` say of it.
use Rattle.std.specs.Prelude.{◌≡◌, ℕ, ◌<◌, ◌≤◌, true, false, List, length, take, Option, IfSome, Result, Ok, Err}
use Rattle.std.specs.Io.KnownBytes.{Consumes, IsAtEnd}
use Rattle.faust_io.specs.declared.failed.ReadError.{ReadError}
use Rattle.faust_io.specs.declared.failed.ReadError.TheVariants as reads
use Rattle.faust_io.specs.Faults.{CountsFault}
use Rattle.faust_record.specs.Runs.{Run}
use Rattle.faust_store.specs.declared.error.StoreError.{StoreError}
use Rattle.faust_store.specs.declared.error.StoreError.TheVariants as store
use Rattle.faust_store.specs.Reading.{Refusal, read}
use Rattle.faust_top.specs.declared.record_input.Piece.{Piece}
use Rattle.faust_top.specs.declared.record_input.RecordError.{RecordError}
use Rattle.faust_top.specs.declared.record_input.RecordError.TheVariants as errors
use Rattle.faust_top.specs.Output.{IsInputRead}

-- The whole input was read, and this is what reading it as a record answers.
pub record HasRead (most : ℕ) (before after : Option (List ℕ)) (failed_before failed_after : ℕ) (due : Result Run Refusal) : Type 0 where
  pub input : List ℕ
  pub whole : IsInputRead most before after failed_before failed_after input
  pub read_is : read input ≡ due

-- Why a source wasn't read to its end.
abbrev pub LeavesUnread : ℕ → Option (List ℕ) → ℕ → ℕ → ReadError → Type 0
LeavesUnread most before failed_before failed_after reads.TooLong =
    IfSome before (λ content. most < length content) × (failed_after ≡ failed_before)
LeavesUnread most before failed_before failed_after reads.Failed = CountsFault failed_before failed_after
LeavesUnread most before failed_before failed_after reads.OutOfMemory = failed_after ≡ failed_before

abbrev pub ReadsRun : ℕ → Option (List ℕ) → Option (List ℕ) → ℕ → ℕ → Result Run RecordError → Type 0
ReadsRun most before after failed_before failed_after (Ok run) = HasRead most before after failed_before failed_after (Ok run)
ReadsRun most before after failed_before failed_after (Err (errors.Refused line cause)) =
    HasRead most before after failed_before failed_after (Err (record { line = line; cause = cause }))
ReadsRun most before after failed_before failed_after (Err (errors.Unread e)) = LeavesUnread most before failed_before failed_after e

-- A buffer is filled, or the source has come to its end.
pub record Fills (before after : Option (List ℕ)) (buffer : List ℕ) (len : ℕ) : Type 0 where
  pub fits : len ≤ length buffer
  pub next : Consumes before after (take len buffer)
  pub end : len < length buffer → IsAtEnd after

-- The next piece: no more than what may come, and some bytes unless it is the last; or more came than may.
pub record IsPiece (left : ℕ) (before after : Option (List ℕ)) (buffer : List ℕ) (piece : Piece) : Type 0 where
  pub fits : piece.len ≤ length buffer
  pub within : piece.len ≤ left
  pub next : Consumes before after (take piece.len buffer)
  pub last : piece.last ≡ true → IsAtEnd after
  pub some : piece.last ≡ false → 0 < piece.len

abbrev pub GivesPiece : ℕ → Option (List ℕ) → Option (List ℕ) → ℕ → ℕ → List ℕ → Result Piece ReadError → Type 0
GivesPiece left before after failed_before failed_after buffer (Ok piece) =
    IsPiece left before after buffer piece × (failed_after ≡ failed_before)
GivesPiece left before after failed_before failed_after buffer (Err e) = LeavesUnread left before failed_before failed_after e

-- The rest of a source was read to its end.
pub record IsDrained (left : ℕ) (before after : Option (List ℕ)) : Type 0 where
  pub rest : List ℕ
  pub within : length rest ≤ left
  pub next : Consumes before after rest
  pub end : IsAtEnd after

abbrev pub Drains : ℕ → Option (List ℕ) → Option (List ℕ) → ℕ → ℕ → Result (Unit {0}) ReadError → Type 0
Drains left before after failed_before failed_after (Ok done) = IsDrained left before after × (failed_after ≡ failed_before)
Drains left before after failed_before failed_after (Err e) = LeavesUnread left before failed_before failed_after e

-- What a refusal of the store becomes, with nothing left to read, and with the rest of the source.
abbrev pub at_end : StoreError → RecordError
at_end (store.BadRecord line cause) = errors.Refused line cause
at_end store.OutOfMemory = errors.Unread reads.OutOfMemory

abbrev pub IsRefusal : ℕ → Option (List ℕ) → Option (List ℕ) → ℕ → ℕ → StoreError → RecordError → Type 0
IsRefusal left before after failed_before failed_after (store.BadRecord line cause) (errors.Refused number why) =
    IsDrained left before after × (failed_after ≡ failed_before) × (number ≡ line) × (why ≡ cause)
IsRefusal left before after failed_before failed_after store.OutOfMemory (errors.Refused number why) = ⊥
IsRefusal left before after failed_before failed_after error (errors.Unread e) = LeavesUnread left before failed_before failed_after e
