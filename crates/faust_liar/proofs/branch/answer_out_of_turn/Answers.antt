use Rattle.faust_liar.proofs.Turns.{answer-out_of_turn}
use Rattle.faust_liar.proofs.branch.answer_out_of_turn.Goals as goal

pub returns-in-Ok-clause-ok : goal.returns-in-Ok-clause-ok
returns-in-Ok-clause-ok c =
    answer-out_of_turn c.args.server.now c.in_ok-branch.branch c.set_turn.new.branch c.submit.new.self c.args.i c.args.m.now _ c.in-Ok.reply
    c.requires.state c.requires.client c.requires.message c.requires.behind c.in_ok-m.ensures c.in_ok-branch.ensures c.set_turn.ensures.row
    c.in-Ok.ensures.row
