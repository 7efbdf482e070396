use Rattle.faust_report.proofs.Pieced.{views_step}
use Rattle.faust_report.proofs.lines.put_views.Goals as goal

pub loop-place-preserved : goal.loop-place-preserved
loop-place-preserved c =
    views_step c.args.views.now c.loop-place.place c.index-views-place.result c.args.out.now c.loop-place.out c.put_view.new.out
    c.loop-place-test.true c.index-views-place.is c.loop-place.invariant c.in_ok-put_view.ensures
