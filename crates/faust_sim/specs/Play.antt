-- Playing a script: every promise of this crate rests on this file. A scene is the run so far and what the lying server
-- holds; each event of the script makes the next scene, or can't be played, and then has a cause. The events come in
-- the order of the table of scripts.
use Rattle.std.specs.Prelude.{ℕ, ◌+◌, ◌-◌, ◌==◌, List, [], ◌∷◌, Option, Some, None, Result, Ok, Err, slice_get, if◌then◌else◌}
use Rattle.faust_text.specs.Fields.{◌>>=◌}
use Rattle.faust_text.specs.declared.cause.Cause.{Cause}
use Rattle.faust_text.specs.declared.cause.Cause.TheVariants as causes
use Rattle.faust_types.specs.declared.config.Config.{Config}
use Rattle.faust_record.specs.Runs.{Run, first_run, next_message}
use Rattle.faust_record.specs.Refusals.{push_of}
use Rattle.faust_record.specs.declared.errors.PushError.{PushError}
use Rattle.faust_record.specs.declared.errors.PushError.TheVariants as pushes
use Rattle.faust_record.specs.declared.run_record.PushInput.{PushInput}
use Rattle.faust_record.specs.declared.run_record.PushInput.TheVariants as given
use Rattle.faust_script.specs.Parsing.{Refusal}
use Rattle.faust_script.specs.declared.event.Event.{Event}
use Rattle.faust_script.specs.declared.event.Event.TheVariants as event
use Rattle.faust_script.specs.declared.script.Script.{Script}
use Rattle.faust_liar.specs.Lies.{Handed, LiarState, again_due, arrived, branched, echoed, edited_due, first_lies, next_due, routed}
use Rattle.faust_liar.specs.declared.error.LiarError.{LiarError}
use Rattle.faust_liar.specs.declared.error.LiarError.TheVariants as lies
use Rattle.faust_sim.specs.Mail.{mailed}

-- The run so far, and what the lying server holds.
pub record Scene : Type 0 where
  pub run : Run
  pub liar : LiarState

-- Nothing happened: an empty run, and branch 0 with every client routed to it.
abbrev pub first_scene : Config → Scene
first_scene config = record { run = first_run config; liar = first_lies config.wire config.clients }

-- Why an entry can't be put into the run. The grammar of scripts refuses values that are too long and registers that
-- aren't there, each by its own cause, so the first two don't come. Want of memory is due nowhere.
abbrev pub cause_of_push : PushError → Cause
cause_of_push pushes.TooLong = causes.Value
cause_of_push pushes.NoRegister = causes.Number
cause_of_push (pushes.Failed notice) = causes.Failed
cause_of_push pushes.Busy = causes.Busy
cause_of_push pushes.Nothing = causes.Nothing
cause_of_push pushes.OutOfMemory = causes.Nothing

-- Why the liar can't do what it is told. Want of memory is due nowhere.
abbrev pub cause_of_lie : LiarError → Cause
cause_of_lie lies.Nothing = causes.Nothing
cause_of_lie lies.NoBranch = causes.Branch
cause_of_lie lies.Field = causes.Field
cause_of_lie lies.OutOfMemory = causes.Nothing

-- An entry: client i gets an input, or its next message to the server arrives.
abbrev pub scene_of_push : LiarState → Result Run PushError → Result Scene Cause
scene_of_push liar (Ok run) = Ok (record { run = run; liar = liar })
scene_of_push liar (Err e) = Err (cause_of_push e)

abbrev pub pushed : Scene → ℕ → PushInput → Result Scene Cause
pushed scene i input = scene_of_push scene.liar (push_of scene.run i input)

-- arrive: the next message of client i to the server, which hasn't arrived, is an entry, and i's branch handles it.
abbrev pub handled_by_liar : ℕ → List ℕ → Scene → Scene
handled_by_liar i message scene = record scene { liar = arrived scene.liar i message }

abbrev pub arrives : Scene → ℕ → Option (List ℕ) → Result Scene Cause
arrives scene i None = Err causes.Nothing
arrives scene i (Some message) = pushed scene i given.Arrive >>= λ next. Ok (handled_by_liar i message next)

-- reply, again, edit, forge: what the liar hands out comes to client i as a reply.
abbrev pub handed : Run → ℕ → Result Handed LiarError → Result Scene Cause
handed run i (Ok out) = pushed (record { run = run; liar = out.state }) i (given.Reply out.bytes)
handed run i (Err e) = Err (cause_of_lie e)

-- peer: a message between clients comes to client j.
abbrev pub delivered : Scene → ℕ → Option (List ℕ) → Result Scene Cause
delivered scene j None = Err causes.Nothing
delivered scene j (Some bytes) = pushed scene j (given.Peer bytes)

-- branch, route, echo: the liar does something, and the run stays.
abbrev pub lied : Run → Result LiarState LiarError → Result Scene Cause
lied run (Ok liar) = Ok (record { run = run; liar = liar })
lied run (Err e) = Err (cause_of_lie e)

-- The table of events: what an event makes of a scene.
abbrev pub event_played : Scene → Event → Result Scene Cause
event_played scene (event.Write i value) = pushed scene i (given.Write value)
event_played scene (event.Read i j) = pushed scene i (given.Read j)
event_played scene (event.Arrive i) = arrives scene i (next_message i scene.run.entries)
event_played scene (event.Reply i) = handed scene.run i (next_due scene.liar i)
event_played scene (event.Tick i m) = pushed scene i (given.Tick m)
event_played scene (event.Peer i j k) = delivered scene j (slice_get (mailed i j scene.run.entries) (k - 1))
event_played scene (event.Post j bytes) = pushed scene j (given.Peer bytes)
event_played scene (event.Branch a b) = lied scene.run (branched scene.liar a b)
event_played scene (event.Route i b) = lied scene.run (routed scene.liar i b)
event_played scene (event.Echo i k b) = lied scene.run (echoed scene.liar i k b)
event_played scene (event.Again i k) = handed scene.run i (again_due scene.liar i k)
event_played scene (event.Edited i edit) = handed scene.run i (edited_due scene.liar i edit None)
event_played scene (event.Forged i edit) = handed scene.run i (edited_due scene.liar i edit (Some scene.run.config.key))
event_played scene (event.Raw i bytes) = pushed scene i (given.Reply bytes)

-- The run that events make, the first of them standing on this line; or the first line that can't be played, with its
-- cause.
abbrev pub and_then_events : ℕ → (Scene → Result Run Refusal) → Result Scene Cause → Result Run Refusal
and_then_events line rest (Ok scene) = rest scene
and_then_events line rest (Err cause) = Err (record { line = line; cause = cause })

unfoldable pub played_from : Scene → ℕ → List Event → Result Run Refusal
played_from scene line [] = Ok scene.run
played_from scene line (event ∷ events) =
    and_then_events line (λ next. played_from next (line + 1) events) (event_played scene event)

-- The head has a line more in format 2: the version of the wire.
abbrev pub head_lines : ℕ → ℕ
head_lines format = if format == 1 then 5 else 6

-- The run of a script, or its first line that can't be played, with the cause.
unfoldable pub played : Script → Result Run Refusal
played script = played_from (first_scene script.config) (head_lines script.format + 1) script.events
