-- Each event of a script makes at most one entry, so a played run has no more entries than its script has events.
use Rattle.std.proofs.Common.{◌≡◌, ◌+◌, ◌-◌, ◌≤◌, ℕ, suc, List, [], ◌∷◌, length, Option, Some, None, Result, Ok, Err, refl, ap, ◌∙◌, subst, arith, length-append}
use Rattle.std.specs.Prelude.{slice_get}
use Rattle.faust_text.specs.Fields.{◌>>=◌}
use Rattle.faust_text.specs.declared.cause.Cause.{Cause}
use Rattle.faust_record.specs.Runs.{Run, next_message}
use Rattle.faust_record.specs.declared.entry.Entry.{Entry}
use Rattle.faust_record.specs.declared.run_record.PushInput.{PushInput}
use Rattle.faust_record.specs.declared.run_record.PushInput.TheVariants as given
use Rattle.faust_record.proofs.Fronts.{push_appends}
use Rattle.faust_script.specs.Parsing.{Refusal}
use Rattle.faust_script.specs.declared.event.Event.{Event}
use Rattle.faust_script.specs.declared.event.Event.TheVariants as event
use Rattle.faust_script.specs.declared.script.Script.{Script}
use Rattle.faust_liar.specs.Lies.{Handed, LiarState, again_due, branched, echoed, edited_due, next_due, routed}
use Rattle.faust_liar.specs.declared.error.LiarError.{LiarError}
use Rattle.faust_sim.specs.Mail.{mailed}
use Rattle.faust_sim.specs.Play.{Scene, and_then_events, arrives, delivered, event_played, first_scene, handed, handled_by_liar, head_lines, lied, played, played_from, pushed}
use Rattle.faust_sim.proofs.Scenes.{scene-pushed}

-- at most one entry more
abbrev IsOneMore : Run → Run → Type 0
IsOneMore old new = length new.entries ≤ length old.entries + 1

pushed-more : (scene next : Scene) (i : ℕ) (input : PushInput) → pushed scene i input ≡ Ok next → IsOneMore scene.run next.run
pushed-more scene next i input is =
    let longer = push_appends scene.run next.run i input (scene-pushed scene next i input is).0 in
    let counted : length next.run.entries ≡ length scene.run.entries + 1 =
    ap (λ (l : List Entry). length l) longer.is_longer ∙ length-append scene.run.entries (longer.entry ∷ []) in
    omega (arith, counted)

handled-more : (scene next : Scene) (i : ℕ) (message : List ℕ) (mid : Result Scene Cause)
    → ((after : Scene) → mid ≡ Ok after → IsOneMore scene.run after.run)
    → (mid >>= λ after. Ok (handled_by_liar i message after)) ≡ Ok next → IsOneMore scene.run next.run
handled-more scene next i message (Ok after) each is =
    let same : handled_by_liar i message after ≡ next = cc in
    subst (λ (s : Scene). IsOneMore scene.run s.run) same (each after refl)
handled-more scene next i message (Err cause) each is = absurd (cc)

arrives-more : (scene next : Scene) (i : ℕ) (due : Option (List ℕ)) → arrives scene i due ≡ Ok next → IsOneMore scene.run next.run
arrives-more scene next i None is = absurd (cc)
arrives-more scene next i (Some message) is =
    handled-more scene next i message (pushed scene i given.Arrive)
    (λ after taken. pushed-more scene after i given.Arrive taken) is

handed-more : (run : Run) (i : ℕ) (due : Result Handed LiarError) (next : Scene) → handed run i due ≡ Ok next → IsOneMore run next.run
handed-more run i (Ok out) next is = pushed-more (record { run = run; liar = out.state }) next i (given.Reply out.bytes) is
handed-more run i (Err e) next is = absurd (cc)

delivered-more : (scene next : Scene) (j : ℕ) (due : Option (List ℕ)) → delivered scene j due ≡ Ok next → IsOneMore scene.run next.run
delivered-more scene next j None is = absurd (cc)
delivered-more scene next j (Some bytes) is = pushed-more scene next j (given.Peer bytes) is

lied-more : (run : Run) (due : Result LiarState LiarError) (next : Scene) → lied run due ≡ Ok next → IsOneMore run next.run
lied-more run (Ok liar) next is =
    let same : record { run = run; liar = liar } ≡ next = cc in
    subst (λ (s : Scene). IsOneMore run s.run) same (omega arith)
lied-more run (Err e) next is = absurd (cc)

event-more : (scene next : Scene) (e : Event) → event_played scene e ≡ Ok next → IsOneMore scene.run next.run
event-more scene next (event.Write i value) is = pushed-more scene next i (given.Write value) is
event-more scene next (event.Read i j) is = pushed-more scene next i (given.Read j) is
event-more scene next (event.Arrive i) is = arrives-more scene next i (next_message i scene.run.entries) is
event-more scene next (event.Reply i) is = handed-more scene.run i (next_due scene.liar i) next is
event-more scene next (event.Tick i m) is = pushed-more scene next i (given.Tick m) is
event-more scene next (event.Peer i j k) is = delivered-more scene next j (slice_get (mailed i j scene.run.entries) (k - 1)) is
event-more scene next (event.Post j bytes) is = pushed-more scene next j (given.Peer bytes) is
event-more scene next (event.Branch a b) is = lied-more scene.run (branched scene.liar a b) next is
event-more scene next (event.Route i b) is = lied-more scene.run (routed scene.liar i b) next is
event-more scene next (event.Echo i k b) is = lied-more scene.run (echoed scene.liar i k b) next is
event-more scene next (event.Again i k) is = handed-more scene.run i (again_due scene.liar i k) next is
event-more scene next (event.Edited i edit) is = handed-more scene.run i (edited_due scene.liar i edit None) next is
event-more scene next (event.Forged i edit) is =
    handed-more scene.run i (edited_due scene.liar i edit (Some scene.run.config.key)) next is
event-more scene next (event.Raw i bytes) is = pushed-more scene next i (given.Reply bytes) is

then-more : (scene : Scene) (line count : ℕ) (rest : Scene → Result Run Refusal) (result : Result Scene Cause) (run : Run)
    → ((next : Scene) → result ≡ Ok next → IsOneMore scene.run next.run)
    → ((next : Scene) → rest next ≡ Ok run → length run.entries ≤ length next.run.entries + count)
    → and_then_events line rest result ≡ Ok run → length run.entries ≤ length scene.run.entries + suc count
then-more scene line count rest (Ok next) run one more is =
    let first : length next.run.entries ≤ length scene.run.entries + 1 = one next refl in
    let others : length run.entries ≤ length next.run.entries + count = more next is in
    omega (arith, first, others)
then-more scene line count rest (Err cause) run one more is = absurd (cc)

from-short : (scene : Scene) (line : ℕ) (events : List Event) (run : Run) → played_from scene line events ≡ Ok run
    → length run.entries ≤ length scene.run.entries + length events
unfolding played_from
from-short scene line [] run is =
    let same : scene.run ≡ run = cc in
    subst (λ (r : Run). length r.entries ≤ length scene.run.entries + 0) same (omega arith)
from-short scene line (e ∷ events) run is =
    then-more scene line (length events) (λ next. played_from next (line + 1) events) (event_played scene e) run
    (λ next taken. event-more scene next e taken)
    (λ next then. from-short next (line + 1) events run then)
    is

pub played_short : (script : Script) (run : Run) → played script ≡ Ok run → length run.entries ≤ length script.events
unfolding played
played_short script run is =
    let short : length run.entries ≤ 0 + length script.events =
    from-short (first_scene script.config) (head_lines script.format + 1) script.events run is in
    omega (arith, short)
