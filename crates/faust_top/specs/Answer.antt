-- What one call of `run` promises: which status comes when, what was written, and which counts stand still.
use Rattle.std.specs.Prelude.{◌≡◌, ℕ, ◌<◌, ◌≤◌, List, [], length, Option, Some, None, IfSome, IsSomeAnd, Ok, Err, ◌⊎◌}
use Rattle.std.specs.Io.KnownBytes.{Appends, IsAtEnd}
use Rattle.faust_types.specs.declared.status.Status.{Status}
use Rattle.faust_types.specs.declared.status.Status.TheVariants.{Done, Usage, Refused, ReadFault, WriteFault, OutOfMemory, Premise}
use Rattle.faust_io.specs.Faults.{CountsFault}
use Rattle.faust_io.specs.Writing.{AppendsPrefix}
use Rattle.faust_text.specs.Causes.{cause_text}
use Rattle.faust_script.specs.Parsing.{Refusal}
use Rattle.faust_premises.specs.Premises.{clean}
use Rattle.faust_verdict.specs.Headline.{IsPromised}
use Rattle.faust_verdict.specs.Texts.{IsPremiseText, usage_text}
use Rattle.faust_top.specs.declared.accepting.Accepted.{Accepted}
use Rattle.faust_top.specs.declared.words.Command.{Command}
use Rattle.faust_top.specs.Accepting.{accepted}
use Rattle.faust_top.specs.Commands.{IsForm, IsNoForm, IsReader, limit_of}
use Rattle.faust_top.specs.Texts.{refusal_text, text_of, too_long_text, verdict_for}

-- An input is over its limit, or within it.
abbrev pub IsOver : Option ℕ → List ℕ → Type 0
IsOver limit input = IsSomeAnd limit (λ most. most < length input)

abbrev pub IsWithin : Option ℕ → List ℕ → Type 0
IsWithin limit input = IfSome limit (λ most. length input ≤ most)

-- What a command accepts of an input: it isn't too long, and no line of it is refused.
pub record IsAccepted (command : Command) (input : List ℕ) (taken : Accepted) : Type 0 where
  pub not_too_long : IsWithin (limit_of command) input
  pub accepted_is : accepted command input ≡ Ok taken

-- The whole input is refused, since it is too long; or a line of one that isn't. A command that reads nothing refuses
-- nothing.
abbrev pub IsRefusedWith : Command → List ℕ → List ℕ → Type 0
IsRefusedWith command input text = (IsOver (limit_of command) input × (text ≡ too_long_text))
    ⊎ ((refusal : Refusal) × IsReader command × IsWithin (limit_of command) input × (accepted command input ≡ Err refusal)
    × (text ≡ refusal_text refusal.line (cause_text refusal.cause)))

-- Which text an input has at a status: what the command tells of its run, where that is clean; or the line that is
-- refused; or why its run isn't clean. Each input has one text, at one status.
abbrev pub IsTextFor : Command → List ℕ → Status → List ℕ → Type 0
IsTextFor command input Done text = (taken : Accepted) × IsAccepted command input taken × (verdict_for command taken.run ≡ clean)
    × (text ≡ text_of command taken)
IsTextFor command input Refused text = IsRefusedWith command input text
IsTextFor command input Premise text =
    (taken : Accepted) × IsAccepted command input taken × IsPremiseText (verdict_for command taken.run) text
IsTextFor command input Usage text = ⊥
IsTextFor command input ReadFault text = ⊥
IsTextFor command input WriteFault text = ⊥
IsTextFor command input OutOfMemory text = ⊥

-- What stands in the source and in the sink before and after the call, where they tell it, and their counts of
-- faults.
pub record Ends : Type 0 where
  pub left_before : Option (List ℕ)
  pub left_after : Option (List ℕ)
  pub reads_failed_before : ℕ
  pub reads_failed_after : ℕ
  pub held_before : Option (List ℕ)
  pub held_after : Option (List ℕ)
  pub writes_failed_before : ℕ
  pub writes_failed_after : ℕ

-- What is promised of the run of an input.
unfoldable pub Promises : Command → List ℕ → Type 0
Promises command input = (taken : Accepted) → IsAccepted command input taken → IsPromised taken.run

-- The input of a command: the bytes of the source, where it tells them, and some bytes where it doesn't. A command that
-- has no limit reads nothing.
abbrev pub IsInput : Option ℕ → Option (List ℕ) → List ℕ → Type 0
IsInput None left input = input ≡ []
IsInput (Some most) left input = IfSome left (λ content. content ≡ input)

-- The source was left alone where nothing is read, and else it was read to its end; where its bytes were refused, some
-- of them were read.
abbrev pub IsRead : Option ℕ → Status → Option (List ℕ) → Option (List ℕ) → Type 0
IsRead None status before after = after ≡ before
IsRead (Some most) Done before after = IsAtEnd after
IsRead (Some most) Premise before after = IsAtEnd after
IsRead (Some most) Usage before after = Unit {0}
IsRead (Some most) Refused before after = Unit {0}
IsRead (Some most) ReadFault before after = Unit {0}
IsRead (Some most) WriteFault before after = Unit {0}
IsRead (Some most) OutOfMemory before after = Unit {0}

-- The words are no form of the program: the usage line is due, and the source was left alone.
pub record IsUsageDue (words : List (List ℕ)) (ends : Ends) (text : List ℕ) : Type 0 where
  pub no_form : IsNoForm words
  pub text_is : text ≡ usage_text
  pub source_kept : ends.left_after ≡ ends.left_before

-- The text of the input of the command is due. What is promised of its run holds.
pub record IsTextDue (words : List (List ℕ)) (ends : Ends) (status : Status) (text : List ℕ) : Type 0 where
  pub command : Command
  pub form : IsForm words command
  pub input : List ℕ
  pub input_is : IsInput (limit_of command) ends.left_before input
  pub text_is : IsTextFor command input status text
  pub promised : Promises command input
  pub source_read : IsRead (limit_of command) status ends.left_before ends.left_after

-- Which text is due at a status.
abbrev pub IsDue : List (List ℕ) → Ends → Status → List ℕ → Type 0
IsDue words ends Usage text = IsUsageDue words ends text
IsDue words ends Refused text = IsTextDue words ends Refused text
IsDue words ends Premise text = IsTextDue words ends Premise text
IsDue words ends Done text = IsTextDue words ends Done text
IsDue words ends ReadFault text = ⊥
IsDue words ends WriteFault text = ⊥
IsDue words ends OutOfMemory text = ⊥

-- The whole text of the status was written, and no count changed.
pub record IsWhole (words : List (List ℕ)) (ends : Ends) (status : Status) : Type 0 where
  pub text : List ℕ
  pub due : IsDue words ends status text
  pub written : Appends ends.held_before ends.held_after text
  pub reads_kept : ends.reads_failed_after ≡ ends.reads_failed_before
  pub writes_kept : ends.writes_failed_after ≡ ends.writes_failed_before

-- A write failed: the sink took a prefix of the text of the status that would have come.
pub record IsCutOff (words : List (List ℕ)) (ends : Ends) : Type 0 where
  pub status : Status
  pub text : List ℕ
  pub due : IsDue words ends status text
  pub prefix : AppendsPrefix ends.held_before ends.held_after text
  pub reads_kept : ends.reads_failed_after ≡ ends.reads_failed_before
  pub write_failed : CountsFault ends.writes_failed_before ends.writes_failed_after

-- Nothing was written.
pub record WritesNothing (ends : Ends) : Type 0 where
  pub held : ends.held_after ≡ ends.held_before
  pub writes_kept : ends.writes_failed_after ≡ ends.writes_failed_before

-- A read failed, of a command that reads.
pub record IsReadFault (words : List (List ℕ)) (ends : Ends) : Type 0 where
  pub command : Command
  pub form : IsForm words command
  pub reads : IsReader command
  pub read_failed : CountsFault ends.reads_failed_before ends.reads_failed_after
  pub nothing : WritesNothing ends

-- There was no memory for what a command needs.
pub record IsOutOfMemory (words : List (List ℕ)) (ends : Ends) : Type 0 where
  pub command : Command
  pub form : IsForm words command
  pub source_read : IsRead (limit_of command) OutOfMemory ends.left_before ends.left_after
  pub reads_kept : ends.reads_failed_after ≡ ends.reads_failed_before
  pub nothing : WritesNothing ends

-- The promise of `run`, status by status.
abbrev pub IsAnswer : List (List ℕ) → Ends → Status → Type 0
IsAnswer words ends Done = IsWhole words ends Done
IsAnswer words ends Usage = IsWhole words ends Usage
IsAnswer words ends Refused = IsWhole words ends Refused
IsAnswer words ends ReadFault = IsReadFault words ends
IsAnswer words ends WriteFault = IsCutOff words ends
IsAnswer words ends OutOfMemory = IsOutOfMemory words ends
IsAnswer words ends Premise = IsWhole words ends Premise
