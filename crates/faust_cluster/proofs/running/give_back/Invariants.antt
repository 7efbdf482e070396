use Rattle.faust_cluster.specs.Casting.{AreUsersTold}
use Rattle.faust_cluster.specs.Ending.{CountsHealth}
use Rattle.faust_cluster.proofs.running.give_back.Given as goal

abbrev pub invariant-loop-each : goal.invariant-loop-each
invariant-loop-each g l = record {
  can_next : (goal.iterator-loop-each g).can_next l.each-iterator;
  finite : (goal.iterator-loop-each g).is_finite l.each-iterator;
  counted : CountsHealth l.health (g.N.Net.faults l.fn.net) (g.N.Net.faults l.net);
  told : AreUsersTold g.T.Session.config.clients g.T.Cast.ops l.receipts;
}
