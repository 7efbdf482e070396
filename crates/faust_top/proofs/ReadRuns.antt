-- What a command accepts is a run, at every answer of the code.
use Rattle.std.proofs.Common.{◌≡◌, ℕ, List, Result, Ok, Err, IfOk, subst}
use Rattle.faust_record.specs.Runs.{IsRun}
use Rattle.faust_script.specs.Parsing.{Refusal}
use Rattle.faust_top.specs.declared.accepting.Accepted.{Accepted}
use Rattle.faust_top.specs.declared.words.Command.{Command}
use Rattle.faust_top.specs.Accepting.{accepted}
use Rattle.faust_top.specs.Output.{AreRuns}

-- what holds anyway holds of each answer
pub any_ok : {X E : Type 0} (r : Result X E) (P : Type 0) → P → IfOk r (λ x. P)
any_ok (Ok x) P p = p
any_ok (Err e) P p = tt

-- one answer is no other
same_ok : {X : Type 0} (r : Result X Refusal) (a b : X) → r ≡ Ok a → r ≡ Ok b → a ≡ b
same_ok r a b is also = cc

no_ok : {X : Type 0} (r : Result X Refusal) (e : Refusal) (a : X) → r ≡ Err e → r ≡ Ok a → ⊥
no_ok r e a is also = absurd (cc)

pub are_runs : (command : Command) (input : List ℕ) (taken : Accepted) → accepted command input ≡ Ok taken
    → IsRun taken.run.config taken.run.entries → AreRuns command input
unfolding AreRuns
are_runs command input taken is kept = λ other also.
    subst (λ (a : Accepted). IsRun a.run.config a.run.entries) (same_ok (accepted command input) taken other is also) kept

pub no_runs : (command : Command) (input : List ℕ) (refusal : Refusal) → accepted command input ≡ Err refusal → AreRuns command input
unfolding AreRuns
no_runs command input refusal is = λ other also. absurd (no_ok (accepted command input) refusal other is also)
