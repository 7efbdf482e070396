use Rattle.faust_report.proofs.Pieced.{facts_step}
use Rattle.faust_report.proofs.report.put_facts.Goals as goal

pub loop-fact-preserved : goal.loop-fact-preserved
loop-fact-preserved c =
    facts_step c.args.facts.now c.loop-fact.fact-index c.fact-item.result c.args.out.now c.loop-fact.out c.put_fact.new.out
    c.loop-fact-test.true c.fact-item.is c.loop-fact.invariant c.in_ok-put_fact.ensures
