use Rattle.std.proofs.Common.{◌≡◌, ◌∙◌, ap, arith}
use Rattle.faust_types.specs.declared.config.Config.{Config}
use Rattle.faust_views.specs.Forks.{AreViews}
use Rattle.faust_views.proofs.Linear.{views-linear}
use Rattle.faust_views.proofs.calls.views.Goals as goal

pub returns-clause-linearizable : goal.returns-clause-linearizable
returns-clause-linearizable c = λ clean.
    let same = ap (λ (config : Config). config.clients) c.config.ensures.config in
    let all : c.loop-before.before ≡ c.args.rec.now.config.clients = omega arith in
    let are : AreViews c.args.rec.now c.loop-before.views = record {
      counted = c.loop-before.invariant.0 ∙ all;
      each = λ i client.
          let to_n = client.to_n in
          c.loop-before.invariant.1 i client.from_one (omega arith);
    } in
    views-linear c.args.rec.now c.loop-before.views c.config.ensures.kept are clean
