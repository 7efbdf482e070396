use Rattle.std.proofs.Common.{◌∙◌}
use Rattle.faust_cluster.proofs.Seats.{all-joined}
use Rattle.faust_cluster.proofs.stage.Stage.into_parts.Goals as goal

pub returns : goal.returns
returns g c =
    all-joined g.T.Session.config g.T.Service.clients c.journals_of.new.root c.join.new.self c.in_ok-journals.journals
    c.into_parts-arrivals.result.0 c.into_parts-arrivals.result.1 c.finish-count.result c.requires
    (c.in_ok-journals.ensures.as_many ∙ c.args.self.as_many) c.in_ok-journals.ensures.joined c.into_parts-arrivals.ensures c.join.ensures
    c.finish-count.ensures.each_once
