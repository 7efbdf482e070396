-- How the code finds the message that arrived, and how it names a refusal. It helps proofs.
use Rattle.std.specs.Prelude.{ℕ, ◌-◌, List, length, Option, option_and_then, slice_get}
use Rattle.faust_text.specs.declared.error.LineError.{LineError}
use Rattle.faust_text.specs.declared.error.LineError.TheVariants as line_errors
use Rattle.faust_record.specs.Runs.{arriving}
use Rattle.faust_record.specs.declared.entry.Entry.{Entry}
use Rattle.faust_record.specs.declared.errors.PushError.{PushError}
use Rattle.faust_record.specs.declared.errors.PushError.TheVariants as pushes
use Rattle.faust_store.specs.Reading.{cause_of_push}

-- The message that arrives in the last entry.
abbrev pub arrival_of : Entry → Option (List ℕ)
arrival_of entry = arriving entry.input

abbrev pub last_arrival : List Entry → Option (List ℕ)
last_arrival entries = option_and_then arrival_of (slice_get entries (length entries - 1))

-- A refusal as an answer.
abbrev pub push_refused : PushError → LineError
push_refused pushes.TooLong = line_errors.Refused (cause_of_push pushes.TooLong)
push_refused pushes.NoRegister = line_errors.Refused (cause_of_push pushes.NoRegister)
push_refused (pushes.Failed notice) = line_errors.Refused (cause_of_push (pushes.Failed notice))
push_refused pushes.Busy = line_errors.Refused (cause_of_push pushes.Busy)
push_refused pushes.Nothing = line_errors.Refused (cause_of_push pushes.Nothing)
push_refused pushes.OutOfMemory = line_errors.OutOfMemory
