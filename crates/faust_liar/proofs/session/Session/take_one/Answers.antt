use Rattle.faust_liar.proofs.Sessions.{session-moved}
use Rattle.faust_liar.proofs.session.Session.take_one.Goals as goal

pub returns-clause-ok : goal.returns-clause-ok
returns-clause-ok c =
    session-moved c.self.inside.route c.self.inside.arrived c.self.inside.handed c.self.inside.waiting.items c.push.new.self
    c.pop_front-waited.new.self.items c.args.reply c.args.self.now c.self.view_is c.requires c.in_ok-push.ensures.ok
    c.pop_front-waited.ensures.rest
