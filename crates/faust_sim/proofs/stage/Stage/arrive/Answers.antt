use Rattle.std.proofs.Common.{◌≡◌, ℕ, List, Ok, refl, sym, ap, ◌∙◌, subst}
use Rattle.std.proofs.lemmas.Result.{err_from_is_err_and}
use Rattle.faust_record.specs.Runs.{next_message}
use Rattle.faust_liar.specs.InRange.{IsArrival}
use Rattle.faust_liar.specs.Lies.{LiarState, arrived, session_count}
use Rattle.faust_sim.specs.Playing.{IsLiarOf, scene_of}
use Rattle.faust_sim.proofs.Scenes.{arrival-fits, arrival-next, arrival-refused, liar-stays, message-arrived, no-arrival, scene-pushed}
use Rattle.faust_sim.proofs.Sendings.{due_sent}
use Rattle.faust_record.specs.declared.run_record.PushInput.TheVariants as given
use Rattle.faust_sim.proofs.stage.Stage.arrive.Goals as goal

pub returns-in_err-push : goal.returns-in_err-push
returns-in_err-push c =
    let scene = scene_of c.args.self.now in
    let i = c.args.client in
    let p = err_from_is_err_and c.from_residual.result c.from_residual.ensures.1 in
    let fails = arrival-refused c.in_err-push.field-0.0 scene i (next_message i scene.run.entries) refl c.in_err-push.ensures in
    rw (p.1, p.2) fails

pub returns-in-None : goal.returns-in-None
returns-in-None c =
    absurd (no-arrival (scene_of c.args.self.now) (scene_of c.push.new.self) c.args.client c.in_ok-push.ensures.is_due c.in-None.ensures)

pub arrive-requires-clause-message : goal.arrive-requires-clause-message
arrive-requires-clause-message c =
    let scene = scene_of c.args.self.now in
    let mid = c.push.new.self in
    let i = c.args.client in
    let bytes = c.in-Some.message.now in
    let taken = c.in_ok-push.ensures.is_due in
    let due = message-arrived scene (scene_of mid) i bytes taken c.in-Some.ensures in
    let same : mid.liar ≡ scene.liar = (scene-pushed scene (scene_of mid) i given.Arrive taken).1 in
    let fits : IsLiarOf scene.run.config mid.liar = subst (IsLiarOf scene.run.config) (sym same) c.requires.kept.liar in
    let by = due_sent scene.run.config scene.run.entries i bytes c.requires.kept.run c.requires.client due in
    subst (IsArrival mid.liar.wire (session_count mid.liar) i) (sym c.in_ok-copy-in-Some.ensures)
    (arrival-fits scene.run.config mid.liar i bytes fits by)

pub returns-in_ok-arrive-in-Some : goal.returns-in_ok-arrive-in-Some
returns-in_ok-arrive-in-Some c =
    let scene = scene_of c.args.self.now in
    let mid = c.push.new.self in
    let i = c.args.client in
    let bytes = c.in-Some.message.now in
    let taken = c.in_ok-push.ensures.is_due in
    let kept = c.in_ok-push.ensures.kept in
    let due = message-arrived scene (scene_of mid) i bytes taken c.in-Some.ensures in
    let handled = c.in_ok-arrive-in-Some.ensures.ok in record {
      kept = record {
        run = kept.run;
        mail = kept.mail;
        liar = liar-stays mid.run.config mid.liar c.arrive.new.self kept.liar c.in_ok-arrive-in-Some.ensures.frame;
      };
      is_due = arrival-next scene (scene_of mid) i bytes due taken
          ∙ ap (λ (liar : LiarState). Ok (record { run = mid.run; liar = liar }))
          (ap (λ (b : List ℕ). arrived mid.liar i b) (sym c.in_ok-copy-in-Some.ensures) ∙ sym handled);
    }
