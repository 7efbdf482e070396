use Rattle.faust_cluster.proofs.Telling.{AreSomeTold}
use Rattle.faust_cluster.proofs.running.no_receipts.Given as goal

abbrev pub invariant-loop-before : goal.invariant-loop-before
invariant-loop-before g l = AreSomeTold g.T.Session.config.clients l.before g.T.Cast.ops l.receipts
