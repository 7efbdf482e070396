-- From the text that is due to what `run` promises.
use Rattle.std.proofs.Common.{◌≡◌, ℕ, ◌+◌, ◌<◌, List, length, replicate, Option, None, Some, Ok, Err, IfSome, refl, sym, subst, inl, inr, arith}
use Rattle.std.specs.Prelude.{IsSome}
use Rattle.std.specs.Io.KnownBytes.{IsAtEnd}
use Rattle.std.proofs.lemmas.List.{length-replicate}
use Rattle.faust_types.specs.declared.status.Status.{Status}
use Rattle.faust_types.specs.declared.status.Status.TheVariants.{Done, Usage, Refused, ReadFault, WriteFault, OutOfMemory, Premise}
use Rattle.faust_io.specs.declared.failed.ReadError.TheVariants as reads
use Rattle.faust_io.specs.Faults.{CountsFault}
use Rattle.faust_top.specs.declared.output.Output.{Output}
use Rattle.faust_top.specs.declared.words.Command.{Command}
use Rattle.faust_top.specs.Accepting.{accepted}
use Rattle.faust_top.specs.Answer.{Ends, IsAnswer, IsCutOff, IsDue, IsInput, IsOutOfMemory, IsOver, IsRead, IsReadFault, IsTextDue, IsTextFor, IsWhole, IsWithin, WritesNothing}
use Rattle.faust_top.specs.Commands.{IsForm, IsNoForm, limit_of}
use Rattle.faust_top.specs.Output.{AreRuns, EndsWriting, ReadsInput, output_of_accepted}
use Rattle.faust_verdict.specs.Texts.{usage_text}
use Rattle.faust_top.specs.Texts.{too_long_text}
use Rattle.faust_top.proofs.OutputLaws.{input_has}
use Rattle.faust_top.proofs.Promising.{promised, promised_too_long}

answered_whole : (words : List (List ℕ)) (ends : Ends) (status : Status) → IsWhole words ends status → IsAnswer words ends status
answered_whole words ends Done h = h
answered_whole words ends Usage h = h
answered_whole words ends Refused h = h
answered_whole words ends ReadFault h = absurd h.due
answered_whole words ends WriteFault h = absurd h.due
answered_whole words ends OutOfMemory h = absurd h.due
answered_whole words ends Premise h = h

-- How the text of a status was written into the sink of these ends.
abbrev pub IsWritten : Ends → Status → List ℕ → Status → Type 0
IsWritten ends status text result =
    EndsWriting status text ends.held_before ends.held_after ends.writes_failed_before ends.writes_failed_after result

-- a text that is due was written whole, or a prefix of it where a write failed
answered : (words : List (List ℕ)) (ends : Ends) (status : Status) (text : List ℕ) (result : Status)
    → IsDue words ends status text → ends.reads_failed_after ≡ ends.reads_failed_before → IsWritten ends status text result
    → IsAnswer words ends result
answered words ends status text result due kept (inl whole) =
    subst (λ (s : Status). IsAnswer words ends s) (sym whole.0)
    (answered_whole words ends status (record { text = text; due = due; written = whole.1; reads_kept = kept; writes_kept = whole.2 }))
answered words ends status text result due kept (inr cut) =
    subst (λ (s : Status). IsAnswer words ends s) (sym cut.0)
    (let h : IsCutOff words ends = record {
      status = status;
      text = text;
      due = due;
      prefix = cut.1;
      reads_kept = kept;
      write_failed = cut.2;
    } in h)

-- Words that are no form.
pub usage_answered : (words : List (List ℕ)) (ends : Ends) (result : Status) → IsNoForm words → ends.left_after ≡ ends.left_before
    → ends.reads_failed_after ≡ ends.reads_failed_before → IsWritten ends Usage usage_text result → IsAnswer words ends result
usage_answered words ends result none left kept written =
    answered words ends Usage usage_text result (record { no_form = none; text_is = refl; source_kept = left }) kept written

-- The input that was read.
abbrev pub IsReadAs : Ends → Command → List ℕ → Type 0
IsReadAs ends command input =
    ReadsInput (limit_of command) ends.left_before ends.left_after ends.reads_failed_before ends.reads_failed_after (Ok input)

read_within : (limit : Option ℕ) (before after : Option (List ℕ)) (failed_before failed_after : ℕ) (input : List ℕ)
    → ReadsInput limit before after failed_before failed_after (Ok input) → IsWithin limit input
read_within None before after failed_before failed_after input h = tt
read_within (Some most) before after failed_before failed_after input h = h.within

read_input_is : (limit : Option ℕ) (before after : Option (List ℕ)) (failed_before failed_after : ℕ) (input : List ℕ)
    → ReadsInput limit before after failed_before failed_after (Ok input) → IsInput limit before input
read_input_is None before after failed_before failed_after input h = h.0
read_input_is (Some most) before after failed_before failed_after input h = h.whole.all

read_kept : (limit : Option ℕ) (before after : Option (List ℕ)) (failed_before failed_after : ℕ) (input : List ℕ)
    → ReadsInput limit before after failed_before failed_after (Ok input) → failed_after ≡ failed_before
read_kept None before after failed_before failed_after input h = h.2
read_kept (Some most) before after failed_before failed_after input h = h.reads_kept

at_end : (most : ℕ) (status : Status) (before after : Option (List ℕ)) → IsAtEnd after → IsRead (Some most) status before after
at_end most Done before after end = end
at_end most Usage before after end = tt
at_end most Refused before after end = tt
at_end most ReadFault before after end = tt
at_end most WriteFault before after end = tt
at_end most OutOfMemory before after end = tt
at_end most Premise before after end = end

read_source : (limit : Option ℕ) (status : Status) (before after : Option (List ℕ)) (failed_before failed_after : ℕ) (input : List ℕ)
    → ReadsInput limit before after failed_before failed_after (Ok input) → IsRead limit status before after
read_source None status before after failed_before failed_after input h = h.1
read_source (Some most) status before after failed_before failed_after input h = at_end most status before after h.whole.at_end

-- The text of the input is due.
text_due : (words : List (List ℕ)) (ends : Ends) (command : Command) (input : List ℕ) (status : Status) (text : List ℕ)
    → IsTextFor command input status text → IsTextDue words ends status text → IsDue words ends status text
text_due words ends command input Done text is due = due
text_due words ends command input Usage text is due = absurd is
text_due words ends command input Refused text is due = due
text_due words ends command input ReadFault text is due = absurd is
text_due words ends command input WriteFault text is due = absurd is
text_due words ends command input OutOfMemory text is due = absurd is
text_due words ends command input Premise text is due = due

pub text_answered : (words : List (List ℕ)) (ends : Ends) (command : Command) (input : List ℕ) (output : Output) (result : Status)
    → IsForm words command → IsReadAs ends command input → AreRuns command input
    → output ≡ output_of_accepted command (accepted command input) → IsWritten ends output.status output.text result
    → IsAnswer words ends result
text_answered words ends command input output result form read runs is written =
    let limit = limit_of command in
    let within = read_within limit ends.left_before ends.left_after ends.reads_failed_before ends.reads_failed_after input read in
    let has : IsTextFor command input output.status output.text =
    subst (λ (o : Output). IsTextFor command input o.status o.text) (sym is) (input_has command input form.in_range within) in
    answered words ends output.status output.text result
    (text_due words ends command input output.status output.text has (record {
      command = command;
      form = form;
      input = input;
      input_is = read_input_is limit ends.left_before ends.left_after ends.reads_failed_before ends.reads_failed_after input read;
      text_is = has;
      promised = promised command input runs;
      source_read = read_source limit output.status ends.left_before ends.left_after ends.reads_failed_before
          ends.reads_failed_after input read;
    }))
    (read_kept limit ends.left_before ends.left_after ends.reads_failed_before ends.reads_failed_after input read)
    written

-- An input that is too long. A source that doesn't tell its bytes may have had too many.
record HasOver (limit : Option ℕ) (left : Option (List ℕ)) : Type 0 where
  input : List ℕ
  input_is : IsInput limit left input
  over : IsOver limit input

longer_than : (n : ℕ) → (xs : List ℕ) × (n < length xs)
longer_than n =
    let byte : ℕ = 0 in
    let count = length-replicate (n + 1) byte in
    (replicate (n + 1) byte, omega (arith, count))

over_some : (most : ℕ) (left : Option (List ℕ)) → IfSome left (λ content. most < length content) → HasOver (Some most) left
over_some most None longer =
    let many = longer_than most in record { input = many.0; input_is = tt; over = many.1 }
over_some most (Some content) longer = record { input = content; input_is = refl; over = longer }

over_of : (limit : Option ℕ) (before after : Option (List ℕ)) (failed_before failed_after : ℕ)
    → ReadsInput limit before after failed_before failed_after (Err reads.TooLong) → HasOver limit before
over_of None before after failed_before failed_after h = absurd h
over_of (Some most) before after failed_before failed_after h = over_some most before h.0

over_read : (limit : Option ℕ) (before after : Option (List ℕ)) (failed_before failed_after : ℕ)
    → ReadsInput limit before after failed_before failed_after (Err reads.TooLong)
    → IsRead limit Refused before after × (failed_after ≡ failed_before)
over_read None before after failed_before failed_after h = absurd h
over_read (Some most) before after failed_before failed_after h = (tt, h.1)

pub too_long_answered : (words : List (List ℕ)) (ends : Ends) (command : Command) (result : Status) → IsForm words command
    → ReadsInput (limit_of command) ends.left_before ends.left_after ends.reads_failed_before ends.reads_failed_after (Err reads.TooLong)
    → IsWritten ends Refused too_long_text result → IsAnswer words ends result
too_long_answered words ends command result form read written =
    let limit = limit_of command in
    let has = over_of limit ends.left_before ends.left_after ends.reads_failed_before ends.reads_failed_after read in
    let source = over_read limit ends.left_before ends.left_after ends.reads_failed_before ends.reads_failed_after read in
    let due : IsTextDue words ends Refused too_long_text = record {
      command = command;
      form = form;
      input = has.input;
      input_is = has.input_is;
      text_is = inl (has.over, refl);
      promised = promised_too_long command has.input has.over;
      source_read = source.0;
    } in
    answered words ends Refused too_long_text result due source.1 written

-- Nothing is written at a fault of reading, and where there is no memory.
fault_reads : (limit : Option ℕ) (before after : Option (List ℕ)) (failed_before failed_after : ℕ)
    → ReadsInput limit before after failed_before failed_after (Err reads.Failed) → IsSome limit
fault_reads None before after failed_before failed_after h = absurd h
fault_reads (Some most) before after failed_before failed_after h = refl

fault_counts : (limit : Option ℕ) (before after : Option (List ℕ)) (failed_before failed_after : ℕ)
    → ReadsInput limit before after failed_before failed_after (Err reads.Failed) → CountsFault failed_before failed_after
fault_counts None before after failed_before failed_after h = absurd h
fault_counts (Some most) before after failed_before failed_after h = h

pub fault_answered : (words : List (List ℕ)) (ends : Ends) (command : Command) → IsForm words command
    → ReadsInput (limit_of command) ends.left_before ends.left_after ends.reads_failed_before ends.reads_failed_after (Err reads.Failed)
    → WritesNothing ends → IsReadFault words ends
fault_answered words ends command form read nothing =
    let limit = limit_of command in record {
      command = command;
      form = form;
      reads = fault_reads limit ends.left_before ends.left_after ends.reads_failed_before ends.reads_failed_after read;
      read_failed = fault_counts limit ends.left_before ends.left_after ends.reads_failed_before ends.reads_failed_after read;
      nothing = nothing;
    }

pub no_memory_answered : (words : List (List ℕ)) (ends : Ends) (command : Command) → IsForm words command
    → IsRead (limit_of command) OutOfMemory ends.left_before ends.left_after → ends.reads_failed_after ≡ ends.reads_failed_before
    → WritesNothing ends → IsOutOfMemory words ends
no_memory_answered words ends command form read kept nothing = record {
  command = command;
  form = form;
  source_read = read;
  reads_kept = kept;
  nothing = nothing;
}
