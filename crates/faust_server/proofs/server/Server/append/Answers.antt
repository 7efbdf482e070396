use Rattle.faust_server.proofs.Kept.{IsState-appended}
use Rattle.faust_server.proofs.server.Server.append.Goals as goal

pub invariant_of-self-2 : goal.invariant_of-self-2
invariant_of-self-2 c = rw (c.set.ensures, c.in_ok-push.ensures.ok)
    (IsState-appended _ _ c.args.i c.self.view_is c.self.invariant c.requires.client c.args.m.now c.requires.message c.requires.committed)
