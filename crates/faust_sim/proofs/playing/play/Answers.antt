use Rattle.std.proofs.Common.{◌≡◌, ◌+◌, ◌<◌, ◌≤◌, List, get_or, length, sym, ap, ◌∙◌, subst, arith}
use Rattle.faust_script.specs.declared.event.Event.{Event}
use Rattle.faust_sim.specs.Play.{Scene, played}
use Rattle.faust_sim.specs.Playing.{Refuses, scene_of}
use Rattle.faust_sim.specs.declared.error.PlayError.{PlayError}
use Rattle.faust_sim.proofs.Events.{play-ended, play-first, play-refused, play-step}
use Rattle.faust_sim.proofs.Scenes.{event-keeps}
use Rattle.faust_sim.proofs.playing.play.Goals as goal

pub loop-event-init : goal.loop-event-init
loop-event-init c =
    let stage = c.in_ok-stage.stage in
    let first = c.in_ok-stage.ensures.first in record {
      kept = c.in_ok-stage.ensures.kept;
      same_config = ap (λ (scene : Scene). scene.run.config) first;
      line_is = omega (arith, c.head_lines-line.ensures);
      so_far = play-first c.args.script.now (scene_of stage) c.head_lines-line.result first c.head_lines-line.ensures;
    }

pub returns-in-Err : goal.returns-in-Err
returns-in-Err c =
    let script = c.args.script.now in
    let index = c.loop-event.event-index in
    let e = c.event-item.result in
    let items : c.as_slice-event-items.result.now ≡ script.events = c.as_slice-event-items.ensures in
    let read : e ≡ get_or script.events index e = subst (λ (l : List Event). e ≡ get_or l index e) items c.event-item.is in
    let inside : index < length script.events =
    subst (λ (l : List Event). index < length l) items (omega (arith, c.loop-event-test.true)) in
    subst (λ (error : PlayError). Refuses error (played script)) (sym c.play_refused.ensures)
    (play-refused c.in-Err.error (scene_of c.loop-event.stage) (c.loop-event.line + 1) script.events index e e (played script) inside read
    c.in-Err.ensures c.loop-event.invariant.so_far)

pub loop-event-preserved : goal.loop-event-preserved
loop-event-preserved c =
    let script = c.args.script.now in
    let index = c.loop-event.event-index in
    let scene = scene_of c.loop-event.stage in
    let next = scene_of c.play.new.self in
    let e = c.event-item.result in
    let items : c.as_slice-event-items.result.now ≡ script.events = c.as_slice-event-items.ensures in
    let read : e ≡ get_or script.events index e = subst (λ (l : List Event). e ≡ get_or l index e) items c.event-item.is in
    let inside : index < length script.events =
    subst (λ (l : List Event). index < length l) items (omega (arith, c.loop-event-test.true)) in
    let invariant = c.loop-event.invariant in
    let played_next = c.in-Ok.ensures in record {
      kept = played_next.kept;
      same_config = event-keeps scene next e played_next.is_due ∙ invariant.same_config;
      line_is = omega (arith, invariant.line_is);
      so_far = play-step scene next (c.loop-event.line + 1) script.events index e e inside read played_next.is_due ∙ invariant.so_far;
    }

pub returns : goal.returns
returns c =
    let script = c.args.script.now in
    let index = c.loop-event.event-index in
    let items : c.as_slice-event-items.result.now ≡ script.events = c.as_slice-event-items.ensures in
    let all : length script.events ≤ index =
    subst (λ (l : List Event). length l ≤ index) items (omega (arith, c.loop-event-test.false)) in
    sym c.loop-event.invariant.so_far
    ∙ play-ended (scene_of c.loop-event.stage) (c.loop-event.line + 1) script.events index all
