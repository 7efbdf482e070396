use Rattle.faust_cluster.proofs.Telling.{AreToldSoFar}
use Rattle.faust_cluster.proofs.user.User.tell_each.Given as goal

abbrev pub invariant-loop-place : goal.invariant-loop-place
invariant-loop-place g l = AreToldSoFar l.self.clients l.self.ops l.self.client l.place l.receipts
