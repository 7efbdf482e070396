use Rattle.faust_liar.proofs.Turns.{submit-due, commit-due}
use Rattle.faust_liar.proofs.laws.branches_are_never_out_of_turn.Goals as goal

pub returns-clause-submit : goal.returns-clause-submit
returns-clause-submit c = submit-due

pub returns-clause-commit : goal.returns-clause-commit
returns-clause-commit c = λ n st i m h client message. commit-due n st i m h client
