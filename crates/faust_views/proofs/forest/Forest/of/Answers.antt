use Rattle.std.proofs.Common.{List, [], take, sym, subst, arith}
use Rattle.faust_runs.specs.ForkViews.{ForkView, fork_views}
use Rattle.faust_views.specs.Forests.{IsForest}
use Rattle.faust_views.proofs.EndsFound.{ends-count}
use Rattle.faust_views.proofs.Forested.{views-more}
use Rattle.faust_views.proofs.forest.Forest.of.Goals as goal

pub loop-q-init : goal.loop-q-init
loop-q-init c =
    let none = ends-count c.in_ok-forest.forest.tree c.in_ok-forest.forest.ends [] c.in_ok-forest.ensures.ends_are in
    (c.in_ok-forest.ensures, omega arith)

pub loop-q-preserved : goal.loop-q-preserved
loop-q-preserved c =
    let more = rw c.config-config.ensures.config at
    c.in_ok-take.ensures.forest (fork_views c.args.rec.now.config (take c.loop-q.q c.args.rec.now.entries)) c.loop-q.invariant.0 in
    let count = c.in_ok-take.ensures.count in (
      subst (λ (views : List ForkView). IsForest c.take.new.self views)
          (sym (views-more c.args.rec.now.config c.args.rec.now.entries c.loop-q.q c.entry_at.result.now c.entry_at.ensures)) more,
      let before = c.loop-q.invariant.1 in omega arith,
    )
