use Rattle.std.proofs.Common.{ℕ, sym, subst}
use Rattle.faust_types.specs.Clients.{IsClient}
use Rattle.faust_liar.specs.Lies.{again_due}
use Rattle.faust_sim.proofs.Sized.{again-sized, handed-sized}
use Rattle.faust_sim.proofs.stage.Stage.again.Goals as goal

pub hand-requires-clause-sized : goal.hand-requires-clause-sized
hand-requires-clause-sized c =
    let stage = c.args.self.now in
    let now = c.again-out.new.self in
    let client = subst (λ (n : ℕ). IsClient n c.args.client) (sym c.requires.kept.liar.counted) c.requires.client in
    handed-sized c.again-out.result stage.liar now (again_due stage.liar c.args.client c.args.k) c.again-out.ensures.due
    (λ bytes is. again-sized stage.liar now c.args.client c.args.k bytes c.requires.liar client is)
