use Rattle.faust_liar.proofs.Sessions.{session-received}
use Rattle.faust_liar.proofs.session.Session.receive.Goals as goal

pub returns-in-Ok-clause-session : goal.returns-in-Ok-clause-session
returns-in-Ok-clause-session c =
    session-received c.self.inside.route c.self.inside.arrived c.push.new.self c.self.inside.handed c.self.inside.waiting.items
    c.answer.new.waiting.items c.args.message c.in_ok-read.read c.args.i c.args.branch.now c.args.self.now c.self.view_is
    c.in_ok-read.ensures c.in_ok-push.ensures.ok c.in-Ok.ensures.replies
