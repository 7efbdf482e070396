-- What one call of `live` promises: which status comes when, what was written, and which counts stand still. It is
-- promised of a call that returns.
use Rattle.std.specs.Prelude.{◌≡◌, ◌⊎◌, ℕ, List, Option}
use Rattle.std.specs.Io.KnownBytes.{Appends}
use Rattle.faust_io.specs.Faults.{CountsFault}
use Rattle.faust_io.specs.Writing.{AppendsPrefix}
use Rattle.faust_verdict.specs.Texts.{usage_text}
use Rattle.faust_outcome.specs.Gathering.{IsGathered}
use Rattle.faust_outcome.specs.Outcomes.{AreRuns, IsPromisedOf, IsText, link_fault_text, start_fault_text}
use Rattle.faust_outcome.specs.Told.{IsWell}
use Rattle.faust_outcome.specs.Words.{IsForm, IsNoForm}
use Rattle.faust_outcome.specs.declared.gathered.Gathered.{Gathered}
use Rattle.faust_outcome.specs.declared.status.LiveStatus.{LiveStatus}
use Rattle.faust_outcome.specs.declared.status.LiveStatus.TheVariants.{Done, Usage, WriteFault, OutOfMemory, Premise, StartFault, LinkFault, Mismatch}
use Rattle.faust_outcome.specs.declared.words.LiveCommand.{LiveCommand}

-- What stands in the sink before and after the call, where it tells it, and the counts of faults.
pub record Ends : Type 0 where
  pub held_before : Option (List ℕ)
  pub held_after : Option (List ℕ)
  pub writes_failed_before : ℕ
  pub writes_failed_after : ℕ
  pub links_failed_before : ℕ
  pub links_failed_after : ℕ
  pub starts_refused_before : ℕ
  pub starts_refused_after : ℕ

-- No link failed; no start was refused.
abbrev pub AreLinksKept : Ends → Type 0
AreLinksKept ends = ends.links_failed_after ≡ ends.links_failed_before

abbrev pub AreStartsKept : Ends → Type 0
AreStartsKept ends = ends.starts_refused_after ≡ ends.starts_refused_before

-- All ended; what was gathered has this text at this status; and the record, if all merges to one, is a run of which holds
-- what is promised of every run.
pub record IsOutcome (command : LiveCommand) (status : LiveStatus) (text : List ℕ) : Type 0 where
  pub it : Gathered
  pub gathered : IsGathered command it
  pub text_is : IsText command it status text
  pub runs : AreRuns command it
  pub promised : IsPromisedOf command it

-- The words are no form of a live run.
pub record IsUsageDue (words : List (List ℕ)) (ends : Ends) (text : List ℕ) : Type 0 where
  pub no_form : IsNoForm words
  pub text_is : text ≡ usage_text
  pub links_kept : AreLinksKept ends
  pub starts_kept : AreStartsKept ends

-- A start was refused.
pub record IsStartDue (words : List (List ℕ)) (ends : Ends) (text : List ℕ) : Type 0 where
  pub command : LiveCommand
  pub form : IsForm words command
  pub start_refused : CountsFault ends.starts_refused_before ends.starts_refused_after
  pub text_is : text ≡ start_fault_text
  pub links_kept : AreLinksKept ends

-- A link failed, or a message arrived that its client hadn't sent next.
pub record IsLinkFailed (ends : Ends) (text : List ℕ) : Type 0 where
  pub link_failed : CountsFault ends.links_failed_before ends.links_failed_after
  pub text_is : text ≡ link_fault_text

pub record IsFrameDifferent (command : LiveCommand) (ends : Ends) (text : List ℕ) : Type 0 where
  pub outcome : IsOutcome command LinkFault text
  pub links_kept : AreLinksKept ends

pub record IsLinkDue (words : List (List ℕ)) (ends : Ends) (text : List ℕ) : Type 0 where
  pub command : LiveCommand
  pub form : IsForm words command
  pub cause : IsLinkFailed ends text ⊎ IsFrameDifferent command ends text
  pub starts_kept : AreStartsKept ends

-- All ended, and no link failed and no start was refused.
pub record IsOutcomeDue (words : List (List ℕ)) (ends : Ends) (status : LiveStatus) (text : List ℕ) : Type 0 where
  pub command : LiveCommand
  pub form : IsForm words command
  pub outcome : IsOutcome command status text
  pub links_kept : AreLinksKept ends
  pub starts_kept : AreStartsKept ends

-- The same, and the text is told of a run: it is well, the headline holds of it, and each user was told what the run has.
pub record IsDoneDue (words : List (List ℕ)) (ends : Ends) (text : List ℕ) : Type 0 where
  pub due : IsOutcomeDue words ends Done text
  pub well : IsWell due.command due.outcome.it text

-- Which text is due at a status.
abbrev pub IsDue : List (List ℕ) → Ends → LiveStatus → List ℕ → Type 0
IsDue words ends Done text = IsDoneDue words ends text
IsDue words ends Usage text = IsUsageDue words ends text
IsDue words ends WriteFault text = ⊥
IsDue words ends OutOfMemory text = ⊥
IsDue words ends Premise text = IsOutcomeDue words ends Premise text
IsDue words ends StartFault text = IsStartDue words ends text
IsDue words ends LinkFault text = IsLinkDue words ends text
IsDue words ends Mismatch text = IsOutcomeDue words ends Mismatch text

-- The whole text of the status was written.
pub record IsWhole (words : List (List ℕ)) (ends : Ends) (status : LiveStatus) : Type 0 where
  pub text : List ℕ
  pub due : IsDue words ends status text
  pub written : Appends ends.held_before ends.held_after text
  pub writes_kept : ends.writes_failed_after ≡ ends.writes_failed_before

-- A write failed: the sink took a prefix of the text of the status that would have come.
pub record IsCutOff (words : List (List ℕ)) (ends : Ends) : Type 0 where
  pub status : LiveStatus
  pub text : List ℕ
  pub due : IsDue words ends status text
  pub prefix : AppendsPrefix ends.held_before ends.held_after text
  pub write_failed : CountsFault ends.writes_failed_before ends.writes_failed_after

-- There was no memory: nothing was written.
pub record IsOutOfMemory (ends : Ends) : Type 0 where
  pub held : ends.held_after ≡ ends.held_before
  pub writes_kept : ends.writes_failed_after ≡ ends.writes_failed_before

-- The promise of `live`, status by status.
abbrev pub IsAnswer : List (List ℕ) → Ends → LiveStatus → Type 0
IsAnswer words ends Done = IsWhole words ends Done
IsAnswer words ends Usage = IsWhole words ends Usage
IsAnswer words ends WriteFault = IsCutOff words ends
IsAnswer words ends OutOfMemory = IsOutOfMemory ends
IsAnswer words ends Premise = IsWhole words ends Premise
IsAnswer words ends StartFault = IsWhole words ends StartFault
IsAnswer words ends LinkFault = IsWhole words ends LinkFault
IsAnswer words ends Mismatch = IsWhole words ends Mismatch
