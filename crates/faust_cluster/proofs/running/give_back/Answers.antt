use Rattle.std.proofs.Common.{sym, subst}
use Rattle.faust_cluster.specs.Ending.{CountsHealth}
use Rattle.faust_cluster.specs.declared.health.Health.{Health}
use Rattle.faust_cluster.proofs.Counted.{worse-counted}
use Rattle.faust_cluster.proofs.running.give_back.Goals as goal

pub loop-each-preserved : goal.loop-each-preserved
loop-each-preserved g c =
    let before = g.N.Net.faults c.args.net.now in
    let between = g.N.Net.faults c.loop-each.net in
    let now = g.N.Net.faults c.give_one_back.new.net in record {
      can_next = tt;
      finite = tt;
      counted = subst (λ (h : Health). CountsHealth h before now) (sym c.worse-health.ensures)
          (worse-counted c.loop-each.health c.give_one_back.result before between now c.loop-each.invariant.counted
          c.give_one_back.ensures.count);
      told = c.give_one_back.ensures.told;
    }
