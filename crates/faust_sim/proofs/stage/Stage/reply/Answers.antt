use Rattle.std.proofs.Common.{ℕ, sym, subst}
use Rattle.faust_types.specs.Clients.{IsClient}
use Rattle.faust_liar.specs.Lies.{next_due}
use Rattle.faust_sim.proofs.Sized.{next-sized, handed-sized}
use Rattle.faust_sim.proofs.stage.Stage.reply.Goals as goal

pub hand-requires-clause-sized : goal.hand-requires-clause-sized
hand-requires-clause-sized c =
    let stage = c.args.self.now in
    let now = c.next-out.new.self in
    let client = subst (λ (n : ℕ). IsClient n c.args.client) (sym c.requires.kept.liar.counted) c.requires.client in
    handed-sized c.next-out.result stage.liar now (next_due stage.liar c.args.client) c.next-out.ensures.due
    (λ bytes is. next-sized stage.liar now c.args.client bytes c.requires.liar client is)
