use Rattle.faust_liar.proofs.Turns.{answer-in_turn}
use Rattle.faust_liar.proofs.branch.answer.Goals as goal

pub returns-in-Ok-clause-ok : goal.returns-in-Ok-clause-ok
returns-in-Ok-clause-ok c =
    answer-in_turn c.args.server.now c.submit.new.self c.args.i c.args.m.now _ c.in-Ok.reply c.requires.state c.requires.client
    c.requires.message c.requires.behind c.in_ok-copy.ensures c.in-Ok.ensures.row
