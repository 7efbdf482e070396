-- A played run has the config of its script.
use Rattle.std.proofs.Common.{◌≡◌, ℕ, ◌+◌, List, [], ◌∷◌, Result, Ok, Err, refl, sym, ap, ◌∙◌}
use Rattle.faust_text.specs.declared.cause.Cause.{Cause}
use Rattle.faust_types.specs.declared.config.Config.{Config}
use Rattle.faust_record.specs.Runs.{Run}
use Rattle.faust_script.specs.Parsing.{Refusal}
use Rattle.faust_script.specs.declared.event.Event.{Event}
use Rattle.faust_script.specs.declared.script.Script.{Script}
use Rattle.faust_sim.specs.Play.{Scene, and_then_events, event_played, first_scene, head_lines, played, played_from}
use Rattle.faust_sim.proofs.Scenes.{event-keeps}

then-keeps : (config : Config) (line : ℕ) (rest : Scene → Result Run Refusal) (result : Result Scene Cause) (run : Run)
    → ((next : Scene) → result ≡ Ok next → next.run.config ≡ config)
    → ((next : Scene) → rest next ≡ Ok run → run.config ≡ next.run.config)
    → and_then_events line rest result ≡ Ok run → run.config ≡ config
then-keeps config line rest (Ok next) run one more is = more next is ∙ one next refl
then-keeps config line rest (Err cause) run one more is = absurd (cc)

from-keeps : (scene : Scene) (line : ℕ) (events : List Event) (run : Run) → played_from scene line events ≡ Ok run
    → run.config ≡ scene.run.config
unfolding played_from
from-keeps scene line [] run is =
    let same : scene.run ≡ run = cc in ap (λ (r : Run). r.config) (sym same)
from-keeps scene line (e ∷ events) run is =
    then-keeps scene.run.config line (λ next. played_from next (line + 1) events) (event_played scene e) run
    (λ next taken. event-keeps scene next e taken)
    (λ next then. from-keeps next (line + 1) events run then)
    is

pub played_config : (script : Script) (run : Run) → played script ≡ Ok run → run.config ≡ script.config
unfolding played
played_config script run is = from-keeps (first_scene script.config) (head_lines script.format + 1) script.events run is
