-- What the calls of this crate answer: what is due by `Play`. Only want of memory is free.
use Rattle.std.specs.Prelude.{◌≡◌, ℕ, List, Result, Ok, Err}
use Rattle.faust_text.specs.declared.cause.Cause.{Cause}
use Rattle.faust_text.specs.declared.error.LineError.{LineError}
use Rattle.faust_text.specs.declared.error.LineError.TheVariants as line_errors
use Rattle.faust_text.specs.Fields.{Fails}
use Rattle.faust_types.specs.declared.config.Config.{Config}
use Rattle.faust_record.specs.Runs.{IsRun, Run}
use Rattle.faust_record.specs.declared.errors.PushError.{PushError}
use Rattle.faust_record.specs.declared.errors.PushError.TheVariants as pushes
use Rattle.faust_script.specs.Parsing.{Refusal}
use Rattle.faust_liar.specs.Lies.{Handed, LiarState, session_count}
use Rattle.faust_liar.specs.declared.error.LiarError.{LiarError}
use Rattle.faust_liar.specs.declared.error.LiarError.TheVariants as lies
use Rattle.faust_sim.specs.Kept.{IsMailOf}
use Rattle.faust_sim.specs.Play.{Scene, cause_of_lie, cause_of_push}
use Rattle.faust_sim.specs.declared.error.PlayError.{PlayError}
use Rattle.faust_sim.specs.declared.error.PlayError.TheVariants as errors
use Rattle.faust_sim.specs.declared.stage.Stage.{Stage}

-- Playing answers the run that is due, or the line and the cause that are due.
abbrev pub Refuses : PlayError → Result Run Refusal → Type 0
Refuses (errors.Cannot line cause) due = due ≡ Err (record { line = line; cause = cause })
Refuses errors.OutOfMemory due = Unit {0}

abbrev pub Plays : Result Run PlayError → Result Run Refusal → Type 0
Plays (Ok run) due = due ≡ Ok run
Plays (Err e) due = Refuses e due

-- The scene that the code holds, and what it keeps between two events.
abbrev pub scene_of : Stage → Scene
scene_of stage = record { run = stage.run; liar = stage.liar }

-- The liar is for the clients of the config, and has its wire.
pub record IsLiarOf (config : Config) (liar : LiarState) : Type 0 where
  pub wire_is : liar.wire ≡ config.wire
  pub counted : session_count liar ≡ config.clients

pub record IsKept (stage : Stage) : Type 0 where
  pub run : IsRun stage.run.config stage.run.entries
  pub mail : IsMailOf stage.run.config.clients stage.mail stage.run.entries
  pub liar : IsLiarOf stage.run.config stage.liar

-- The stage is one whose scene is due.
pub record IsDue (stage : Stage) (due : Result Scene Cause) : Type 0 where
  pub kept : IsKept stage
  pub is_due : due ≡ Ok (scene_of stage)

abbrev pub Comes : {Done : Type 0} → Result Done LineError → Stage → Result Scene Cause → Type 0
Comes (Ok done) stage due = IsDue stage due
Comes (Err e) stage due = Fails e due

-- What the liar handed out is what was due, and it came into this state; or the refusal was due.
abbrev pub IsHanded : Result (List ℕ) LiarError → LiarState → Result Handed LiarError → Type 0
IsHanded (Ok bytes) liar due = due ≡ Ok (record { state = liar; bytes = bytes })
IsHanded (Err lies.OutOfMemory) liar due = Unit {0}
IsHanded (Err lies.Nothing) liar due = due ≡ Err lies.Nothing
IsHanded (Err lies.NoBranch) liar due = due ≡ Err lies.NoBranch
IsHanded (Err lies.Field) liar due = due ≡ Err lies.Field

-- A refusal as an answer.
abbrev pub push_refused : PushError → LineError
push_refused pushes.TooLong = line_errors.Refused (cause_of_push pushes.TooLong)
push_refused pushes.NoRegister = line_errors.Refused (cause_of_push pushes.NoRegister)
push_refused (pushes.Failed notice) = line_errors.Refused (cause_of_push (pushes.Failed notice))
push_refused pushes.Busy = line_errors.Refused (cause_of_push pushes.Busy)
push_refused pushes.Nothing = line_errors.Refused (cause_of_push pushes.Nothing)
push_refused pushes.OutOfMemory = line_errors.OutOfMemory

abbrev pub lie_refused : LiarError → LineError
lie_refused lies.Nothing = line_errors.Refused (cause_of_lie lies.Nothing)
lie_refused lies.NoBranch = line_errors.Refused (cause_of_lie lies.NoBranch)
lie_refused lies.Field = line_errors.Refused (cause_of_lie lies.Field)
lie_refused lies.OutOfMemory = line_errors.OutOfMemory

abbrev pub play_refused : ℕ → LineError → PlayError
play_refused line (line_errors.Refused cause) = errors.Cannot line cause
play_refused line line_errors.OutOfMemory = errors.OutOfMemory
