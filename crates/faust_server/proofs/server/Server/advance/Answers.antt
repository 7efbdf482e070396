use Rattle.faust_server.proofs.Kept.{IsState-led}
use Rattle.faust_server.proofs.server.Server.advance.Goals as goal

pub invariant_of-self : goal.invariant_of-self
invariant_of-self c = rw c.leave_through.ensures.value (IsState-led _ _ c.args.i c.self.view_is c.self.invariant c.requires.client)
