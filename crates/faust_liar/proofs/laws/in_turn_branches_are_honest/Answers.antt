use Rattle.faust_liar.proofs.Turns.{submit-honest, commit-honest}
use Rattle.faust_liar.proofs.laws.in_turn_branches_are_honest.Goals as goal

pub returns-clause-submit : goal.returns-clause-submit
returns-clause-submit c = submit-honest

pub returns-clause-commit : goal.returns-clause-commit
returns-clause-commit c = λ n st after i m h client message. commit-honest n st after i m h client
