use Rattle.std.proofs.Common.{true, false}
use Rattle.faust_server.proofs.Kept.{IsState-retaken}
use Rattle.faust_server.proofs.server.Server.retake.Goals as goal
use Rattle.faust_server.proofs.server.Server.retake.Goals.{then-not-uncommitted, else-not-uncommitted}

pub invariant_of-self : goal.invariant_of-self
invariant_of-self c = elim c.if-not-uncommitted.branch [
  | then-not-uncommitted w ↦ rw (c.set.ensures, w.self-inside-is, w.leave.ensures.value, w.if-not-uncommitted.true)
      (IsState-retaken _ _ c.args.i c.self.view_is c.self.invariant c.requires.client c.args.last false c.requires.below)
  | else-not-uncommitted w ↦ rw (c.set.ensures, w.self-inside-is, w.if-not-uncommitted.false)
      (IsState-retaken _ _ c.args.i c.self.view_is c.self.invariant c.requires.client c.args.last true c.requires.below)
]
