use Rattle.faust_server.specs.Rows.{first_turn}
use Rattle.faust_server.proofs.Kept.{IsState-settled}
use Rattle.faust_server.proofs.server.Server.settle.Goals as goal

pub invariant_of-self : goal.invariant_of-self
invariant_of-self c =
    rw (c.replace-replaced.ensures.after, c.leave.ensures.value, c.set.ensures, c.set-2.ensures, c.at.ensures first_turn)
    (IsState-settled _ _ c.args.i c.self.view_is c.self.invariant c.requires.client c.args.m c.requires.message)
