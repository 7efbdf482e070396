use Rattle.std.proofs.Common.{None, ap}
use Rattle.std.proofs.lemmas.List.{set-set}
use Rattle.faust_server.specs.Rows.{State, remembered}
use Rattle.faust_server.proofs.Kept.{IsState-remembered}
use Rattle.faust_server.proofs.server.Server.remember.Goals as goal

pub invariant_of-self : goal.invariant_of-self
invariant_of-self c = rw (c.set.ensures, c.replace-held.ensures.after, set-set, c.renewed.ensures, c.replace-held.ensures.held None)
    (IsState-remembered _ _ c.args.i c.self.view_is c.self.invariant c.requires.client c.args.m c.requires.message)

pub returns : goal.returns
returns c = rw (c.set.ensures, c.replace-held.ensures.after, set-set, c.renewed.ensures, c.replace-held.ensures.held None)
    (ap (λ (st : State). remembered st c.args.i c.args.m) c.self.view_is)
