-- What one input at a client leaves, and what a step of a journal is due.
use Rattle.std.proofs.Common.{◌≡◌, ◌+◌, ◌<◌, ◌≤◌, ℕ, Bool, true, false, cond, List, [], ◌∷◌, ◌++◌, length, Option, Some, None, is_some, Result, Ok, Err, nat_lt, refl, sym, ap, ◌∙◌, subst}
use Rattle.std.proofs.lemmas.List.{set_at}
use Rattle.std.proofs.lemmas.Bool.{le-ltb, lt-ltb}
use Rattle.std.specs.Prelude.{slice_set}
use Rattle.faust_types.specs.declared.config.Config.{Config}
use Rattle.faust_types.specs.declared.outcome.Outcome.{Outcome}
use Rattle.faust_agent.specs.State.{Member}
use Rattle.faust_agent.specs.declared.client.Client.{Client}
use Rattle.faust_record.specs.Entries.{MayCome, entry_at, member_after, outcome_at, replay, state_at}
use Rattle.faust_record.specs.Runs.{arriving}
use Rattle.faust_record.specs.Journals.{IsJournal, IsNumberBehind, Log, member_of}
use Rattle.faust_record.specs.Refusals.{StepRefuses, as_step_error, logged, logged_unless, refusal_at, step_of}
use Rattle.faust_record.specs.Acting.{IsActed, Refused, entry_by, member_at}
use Rattle.faust_record.specs.declared.entry.Input.{Input}
use Rattle.faust_record.specs.declared.entry.Entry.{Entry}
use Rattle.faust_record.specs.declared.errors.Refusal.{Refusal}
use Rattle.faust_record.specs.declared.errors.Refusal.TheVariants as refusals
use Rattle.faust_record.specs.declared.errors.StepError.{StepError}
use Rattle.faust_record.specs.declared.errors.StepError.TheVariants as steps
use Rattle.faust_record.proofs.Own.{member_after-append}
use Rattle.faust_record.proofs.Journals.{journal-acted}

-- an entry in the place that was made for it
pub put-entry : (before pushed now : List Entry) (blank : Entry) (place number me : ℕ) (old new : Member) (input : Input)
    (outcome : Outcome)
    → pushed ≡ before ++ blank ∷ [] → place ≡ length before
    → now ≡ slice_set pushed place (record { number = number; client = me; input = input; outcome = outcome })
    → me ≡ new.me → new ≡ member_at old input → outcome ≡ outcome_at old.config old.me old.client input
    → now ≡ before ++ entry_by old number input ∷ []
put-entry before pushed now blank place number me old new input outcome pushed_is place_is now_is me_is moved given =
    let whose : me ≡ old.me = me_is ∙ ap (λ (m : Member). m.me) moved in
    let entry : ℕ → Outcome → Entry = λ (i : ℕ) (o : Outcome). record { number = number; client = i; input = input; outcome = o } in
    now_is
    ∙ ap (λ (l : List Entry). slice_set l place (entry me outcome)) pushed_is
    ∙ set_at before blank [] (entry me outcome) place (sym place_is)
    ∙ ap (λ (i : ℕ). before ++ entry i outcome ∷ []) whose
    ∙ ap (λ (o : Outcome). before ++ entry old.me o ∷ []) given

-- the answer that is due to a step
pub step-full : (log : Log) (number : ℕ) (input : Input) → 200000 ≤ length log.entries → step_of log number input ≡ Err steps.Full
unfolding step_of
step-full log number input many =
    let st = replay log.config log.me log.entries in
    let longer = logged_unless log (entry_at log.config log.me st number input) (refusal_at log.config log.me st input) in
    ap (λ (b : Bool). cond b longer (Err steps.Full)) (le-ltb (length log.entries) 200000 many)

pub step-due : (log : Log) (number : ℕ) (input : Input) (refusal : Option Refusal) → length log.entries < 200000
    → refusal_at log.config log.me (replay log.config log.me log.entries) input ≡ refusal
    → step_of log number input
    ≡ logged_unless log (entry_at log.config log.me (replay log.config log.me log.entries) number input) refusal
unfolding step_of
step-due log number input refusal few is =
    let entry = entry_at log.config log.me (replay log.config log.me log.entries) number input in
    let longer = logged_unless log entry (refusal_at log.config log.me (replay log.config log.me log.entries) input) in
    ap (λ (b : Bool). cond b longer (Err steps.Full)) (lt-ltb (length log.entries) 200000 few)
    ∙ ap (logged_unless log entry) is

-- a refusal of the client
pub refusal-due : (refusal : Refusal) (log same : Log) (number : ℕ) (input : Input) (before now : List Entry) (new : Member)
    → length log.entries < 200000 → Refused refusal before now (member_of log) new input
    → same ≡ log → StepRefuses (as_step_error refusal) log same (step_of log number input)
refusal-due refusals.TooLong log same number input before now new few refused kept =
    (kept, step-due log number input (Some refusals.TooLong) few refused.refused)
refusal-due refusals.NoRegister log same number input before now new few refused kept =
    (kept, step-due log number input (Some refusals.NoRegister) few refused.refused)
refusal-due (refusals.Failed notice) log same number input before now new few refused kept =
    (kept, step-due log number input (Some (refusals.Failed notice)) few refused.refused)
refusal-due refusals.Busy log same number input before now new few refused kept =
    (kept, step-due log number input (Some refusals.Busy) few refused.refused)
refusal-due refusals.OutOfMemory log same number input before now new few refused kept = kept

-- what is refused stays
pub refused-stays : (refusal : Refusal) (before now : List Entry) (old new : Member) (input : Input)
    → Refused refusal before now old new input → (now ≡ before) × (new ≡ old)
refused-stays refusals.TooLong before now old new input refused = (refused.same_entries, refused.same_member)
refused-stays refusals.NoRegister before now old new input refused = (refused.same_entries, refused.same_member)
refused-stays (refusals.Failed notice) before now old new input refused = (refused.same_entries, refused.same_member)
refused-stays refusals.Busy before now old new input refused = (refused.same_entries, refused.same_member)
refused-stays refusals.OutOfMemory before now old new input refused = refused

-- the journal in memory, as it is seen
abbrev pub seen : Member → List Entry → Log
seen agent entries = record { config = agent.config; me = agent.me; entries = entries }

-- the journal after an input that was taken
pub log-acted : (sends : Bool) (log : Log) (number : ℕ) (input : Input) (now : List Entry) (new : Member)
    → IsActed sends log.entries now (member_of log) new number input
    → seen new now ≡ logged log (entry_at log.config log.me (replay log.config log.me log.entries) number input)
log-acted sends log number input now new acted =
    ap (λ (m : Member). record { config = m.config; me = m.me; entries = now }) acted.moved
    ∙ ap (λ (l : List Entry). record { config = log.config; me = log.me; entries = l }) acted.appended

pub log-due : (sends : Bool) (log : Log) (number : ℕ) (input : Input) (now : List Entry) (new : Member) → length log.entries < 200000
    → IsActed sends log.entries now (member_of log) new number input → step_of log number input ≡ Ok (seen new now)
log-due sends log number input now new few acted =
    step-due log number input None few acted.taken ∙ ap (λ (l : Log). Ok l) (sym (log-acted sends log number input now new acted))

pub log-kept : (sends : Bool) (log : Log) (number : ℕ) (input : Input) (now : List Entry) (new : Member) → IsJournal log
    → IsNumberBehind log.entries number → arriving input ≡ None → length log.entries < 200000
    → IsActed sends log.entries now (member_of log) new number input
    → IsJournal (seen new now) × (new ≡ member_of (seen new now))
log-kept sends log number input now new kept behind own few acted =
    let st = replay log.config log.me log.entries in
    let longer : Log = logged log (entry_at log.config log.me st number input) in
    let same : seen new now ≡ longer = log-acted sends log number input now new acted in
    let moved : new ≡ member_of longer =
    acted.moved ∙ sym (member_after-append log.config log.me log.entries (entry_at log.config log.me st number input)) in
    (subst IsJournal (sym same) (journal-acted log number input kept behind own few acted.may_come), moved ∙ ap member_of (sym same))
