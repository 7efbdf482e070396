-- Each way in which a call of `live` ends has its answer.
use Rattle.std.proofs.Common.{◌≡◌, ℕ, List, inl, inr, refl, sym, subst}
use Rattle.faust_io.specs.Faults.{CountsFault}
use Rattle.faust_verdict.specs.Texts.{usage_text}
use Rattle.faust_outcome.specs.Gathering.{IsGathered}
use Rattle.faust_outcome.specs.Outcomes.{AreRuns, IsPromisedOf, IsText, link_fault_text, start_fault_text}
use Rattle.faust_outcome.specs.Words.{IsForm, IsNoForm}
use Rattle.faust_outcome.specs.declared.deciding.Output.{Output}
use Rattle.faust_outcome.specs.declared.gathered.Gathered.{Gathered}
use Rattle.faust_outcome.specs.declared.status.LiveStatus.{LiveStatus}
use Rattle.faust_outcome.specs.declared.status.LiveStatus.TheVariants.{Done, Usage, WriteFault, OutOfMemory, Premise, StartFault, LinkFault, Mismatch}
use Rattle.faust_outcome.specs.declared.words.LiveCommand.{LiveCommand}
use Rattle.faust_outcome.proofs.ToldLaws.{done-is-well}
use Rattle.faust_cluster.specs.Answer.{AreLinksKept, AreStartsKept, Ends, IsAnswer, IsCutOff, IsDue, IsOutcome, IsOutcomeDue, IsWhole}
use Rattle.faust_cluster.specs.Writing.{EndsWriting}

answered_whole : (words : List (List ℕ)) (ends : Ends) (status : LiveStatus) → IsWhole words ends status → IsAnswer words ends status
answered_whole words ends Done h = h
answered_whole words ends Usage h = h
answered_whole words ends WriteFault h = absurd h.due
answered_whole words ends OutOfMemory h = absurd h.due
answered_whole words ends Premise h = h
answered_whole words ends StartFault h = h
answered_whole words ends LinkFault h = h
answered_whole words ends Mismatch h = h

-- How the text of a status was written into the sink of these ends.
abbrev pub IsWritten : Ends → LiveStatus → List ℕ → LiveStatus → Type 0
IsWritten ends status text result =
    EndsWriting status text ends.held_before ends.held_after ends.writes_failed_before ends.writes_failed_after result

-- a text that is due was written whole, or a prefix of it where a write failed
answered : (words : List (List ℕ)) (ends : Ends) (status : LiveStatus) (text : List ℕ) (result : LiveStatus)
    → IsDue words ends status text → IsWritten ends status text result → IsAnswer words ends result
answered words ends status text result due (inl whole) =
    subst (λ (s : LiveStatus). IsAnswer words ends s) (sym whole.0)
    (answered_whole words ends status (record { text = text; due = due; written = whole.1; writes_kept = whole.2 }))
answered words ends status text result due (inr cut) =
    subst (λ (s : LiveStatus). IsAnswer words ends s) (sym cut.0)
    (let h : IsCutOff words ends = record { status = status; text = text; due = due; prefix = cut.1; write_failed = cut.2 } in h)

pub usage_answered : (words : List (List ℕ)) (ends : Ends) (result : LiveStatus) → IsNoForm words → AreLinksKept ends → AreStartsKept ends
    → IsWritten ends Usage usage_text result → IsAnswer words ends result
usage_answered words ends result none links starts written =
    answered words ends Usage usage_text result
    (record { no_form = none; text_is = refl; links_kept = links; starts_kept = starts }) written

pub start_answered : (words : List (List ℕ)) (ends : Ends) (command : LiveCommand) (result : LiveStatus) → IsForm words command
    → CountsFault ends.starts_refused_before ends.starts_refused_after → AreLinksKept ends
    → IsWritten ends StartFault start_fault_text result → IsAnswer words ends result
start_answered words ends command result form refused links written =
    answered words ends StartFault start_fault_text result
    (record { command = command; form = form; start_refused = refused; text_is = refl; links_kept = links }) written

pub link_answered : (words : List (List ℕ)) (ends : Ends) (command : LiveCommand) (result : LiveStatus) → IsForm words command
    → CountsFault ends.links_failed_before ends.links_failed_after → AreStartsKept ends
    → IsWritten ends LinkFault link_fault_text result → IsAnswer words ends result
link_answered words ends command result form failed starts written =
    answered words ends LinkFault link_fault_text result
    (record { command = command; form = form; cause = inl (record { link_failed = failed; text_is = refl }); starts_kept = starts }) written

-- what all came to is due at its status
outcome_due : (words : List (List ℕ)) (ends : Ends) (status : LiveStatus) (text : List ℕ) (due : IsOutcomeDue words ends status text)
    → IsText due.command due.outcome.it status text → IsDue words ends status text
outcome_due words ends Done text due is = record {
  due = due;
  well = done-is-well due.command due.outcome.it text due.form.in_range due.outcome.gathered due.outcome.runs is;
}
outcome_due words ends Usage text due is = absurd is
outcome_due words ends WriteFault text due is = absurd is
outcome_due words ends OutOfMemory text due is = absurd is
outcome_due words ends Premise text due is = due
outcome_due words ends StartFault text due is = absurd is
outcome_due words ends LinkFault text due is = record {
  command = due.command;
  form = due.form;
  cause = inr (record { outcome = due.outcome; links_kept = due.links_kept });
  starts_kept = due.starts_kept;
}
outcome_due words ends Mismatch text due is = due

pub outcome_answered : (words : List (List ℕ)) (ends : Ends) (command : LiveCommand) (it : Gathered) (output : Output)
    (result : LiveStatus) → IsForm words command → IsGathered command it → IsText command it output.status output.text
    → AreRuns command it → IsPromisedOf command it → AreLinksKept ends → AreStartsKept ends
    → IsWritten ends output.status output.text result → IsAnswer words ends result
outcome_answered words ends command it output result form gathered is runs promised links starts written =
    let outcome : IsOutcome command output.status output.text =
    record { it = it; gathered = gathered; text_is = is; runs = runs; promised = promised } in
    let due : IsOutcomeDue words ends output.status output.text =
    record { command = command; form = form; outcome = outcome; links_kept = links; starts_kept = starts } in
    answered words ends output.status output.text result (outcome_due words ends output.status output.text due is) written

pub no_memory_answered : (words : List (List ℕ)) (ends : Ends) → ends.held_after ≡ ends.held_before
    → ends.writes_failed_after ≡ ends.writes_failed_before → IsAnswer words ends OutOfMemory
no_memory_answered words ends held kept = record { held = held; writes_kept = kept }
