use Rattle.faust_ustor.proofs.Passes.{judged-from}
use Rattle.faust_honest.proofs.laws.accepted_reply_is_judged_to_pass.Goals as goal

pub returns : goal.returns
returns c = λ n world i arrived reply own op accepted version kind register.
    judged-from world.key i own op reply (accepted.passed own op version kind register)
