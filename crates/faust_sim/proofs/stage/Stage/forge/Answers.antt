use Rattle.std.proofs.Common.{ℕ, Some, sym, subst}
use Rattle.faust_types.specs.Clients.{IsClient}
use Rattle.faust_script.specs.InRange.{IsEditFor}
use Rattle.faust_liar.specs.Lies.{edited_due}
use Rattle.faust_sim.proofs.Sized.{edited-sized, handed-sized}
use Rattle.faust_sim.proofs.stage.Stage.forge.Goals as goal

pub hand-requires-clause-sized : goal.hand-requires-clause-sized
hand-requires-clause-sized c =
    let stage = c.args.self.now in
    let now = c.edited-out.new.self in
    let key = Some c.as_slice-key.result.now in
    let client = subst (λ (n : ℕ). IsClient n c.args.client) (sym c.requires.kept.liar.counted) c.requires.client in
    let edit = subst (λ (n : ℕ). IsEditFor n c.args.edit.now) (sym c.requires.kept.liar.counted) c.requires.edit in
    handed-sized c.edited-out.result stage.liar now (edited_due stage.liar c.args.client c.args.edit.now key) c.edited-out.ensures.due
    (λ bytes is. edited-sized stage.liar now c.args.client c.args.edit.now key bytes c.requires.liar client edit is)
