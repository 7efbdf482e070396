-- Events that are played one after the other, and the lines on which they stand.
use Rattle.std.proofs.Common.{◌≡◌, ◌+◌, ◌<◌, ◌≤◌, ℕ, zero, suc, List, [], ◌∷◌, length, drop, get_or, Result, Ok, Err, sym, ap, ◌∙◌, subst, arith}
use Rattle.std.specs.List.{AllByRecursion}
use Rattle.std.proofs.lemmas.List.{drop_all, drop_more}
use Rattle.faust_text.specs.declared.cause.Cause.{Cause}
use Rattle.faust_text.specs.declared.error.LineError.{LineError}
use Rattle.faust_text.specs.declared.error.LineError.TheVariants as line_errors
use Rattle.faust_text.specs.Fields.{Fails}
use Rattle.faust_record.specs.Runs.{Run}
use Rattle.faust_script.specs.Parsing.{Refusal}
use Rattle.faust_script.specs.declared.event.Event.{Event}
use Rattle.faust_script.specs.declared.script.Script.{Script}
use Rattle.faust_sim.specs.Play.{Scene, and_then_events, event_played, first_scene, head_lines, played, played_from}
use Rattle.faust_sim.specs.Playing.{Refuses, play_refused}

-- an event stands first among those that are left
event-here : (events : List Event) (index : ℕ) (e d : Event) → index < length events → e ≡ get_or events index d
    → drop index events ≡ e ∷ drop (index + 1) events
event-here events index e d inside read =
    drop_more events index d inside ∙ ap (λ (x : Event). x ∷ drop (index + 1) events) (sym read)

pub all-get : {X : Type 0} (P : X → Type 0) (xs : List X) (k : ℕ) (x d : X) → AllByRecursion P xs → k < length xs → x ≡ get_or xs k d → P x
all-get P [] k x d all inside read = absurd (omega (arith, inside))
all-get P (y ∷ xs) zero x d all inside read = subst P (sym read) all.0
all-get P (y ∷ xs) (suc k) x d all inside read = all-get P xs k x d all.1 (omega (arith, inside)) read

pub play-step : (scene next : Scene) (line : ℕ) (events : List Event) (index : ℕ) (e d : Event) → index < length events
    → e ≡ get_or events index d → event_played scene e ≡ Ok next
    → played_from next (line + 1) (drop (index + 1) events) ≡ played_from scene line (drop index events)
unfolding played_from
play-step scene next line events index e d inside read is =
    let rest : Scene → Result Run Refusal = λ after. played_from after (line + 1) (drop (index + 1) events) in
    sym (ap (played_from scene line) (event-here events index e d inside read)
    ∙ ap (and_then_events line rest) is)

pub play-stopped : (scene : Scene) (line : ℕ) (events : List Event) (index : ℕ) (e d : Event) (cause : Cause) → index < length events
    → e ≡ get_or events index d → event_played scene e ≡ Err cause
    → played_from scene line (drop index events) ≡ Err (record { line = line; cause = cause })
unfolding played_from
play-stopped scene line events index e d cause inside read is =
    let rest : Scene → Result Run Refusal = λ after. played_from after (line + 1) (drop (index + 1) events) in
    ap (played_from scene line) (event-here events index e d inside read) ∙ ap (and_then_events line rest) is

-- a refusal as the answer of a script
pub play-refused : (error : LineError) (scene : Scene) (line : ℕ) (events : List Event) (index : ℕ) (e d : Event) (due : Result Run Refusal)
    → index < length events → e ≡ get_or events index d → Fails error (event_played scene e)
    → played_from scene line (drop index events) ≡ due → Refuses (play_refused line error) due
play-refused (line_errors.Refused cause) scene line events index e d due inside read fails so_far =
    sym so_far ∙ play-stopped scene line events index e d cause inside read fails
play-refused line_errors.OutOfMemory scene line events index e d due inside read fails so_far = tt

pub play-ended : (scene : Scene) (line : ℕ) (events : List Event) (index : ℕ) → length events ≤ index
    → played_from scene line (drop index events) ≡ Ok scene.run
unfolding played_from
play-ended scene line events index all = ap (played_from scene line) (drop_all index events all)

pub play-first : (script : Script) (scene : Scene) (line : ℕ) → scene ≡ first_scene script.config → line ≡ head_lines script.format
    → played_from scene (line + 1) script.events ≡ played script
unfolding played
play-first script scene line first is =
    ap (λ (s : Scene). played_from s (line + 1) script.events) first
    ∙ ap (λ (k : ℕ). played_from (first_scene script.config) (k + 1) script.events) is
