use Rattle.std.proofs.Common.{Err, subst}
use Rattle.faust_script.specs.Parsing.{Refusal}
use Rattle.faust_top.specs.declared.accepting.AcceptError.{AcceptError}
use Rattle.faust_top.specs.Accepting.{accepted}
use Rattle.faust_top.specs.Output.{Accepts, AreRuns}
use Rattle.faust_top.proofs.ReadRuns.{any_ok, are_runs, no_runs}
use Rattle.faust_top.proofs.output.answer.Goals as goal

pub returns-in-Ok-clause-are_runs : goal.returns-in-Ok-clause-are_runs
returns-in-Ok-clause-are_runs c =
    let command = c.args.command in
    let input = c.args.input in
    any_ok c.accepted_output.result (AreRuns command input)
    (are_runs command input c.in-Ok.taken c.in-Ok.ensures.accepts c.in-Ok.ensures.printable.is_run)

pub returns-in-Err-Refused-clause-are_runs : goal.returns-in-Err-Refused-clause-are_runs
returns-in-Err-Refused-clause-are_runs c =
    let command = c.args.command in
    let input = c.args.input in
    let refusal : Refusal = record { line = c.in-Err-Refused.line; cause = c.in-Err-Refused.cause } in
    let refused = subst (λ (e : AcceptError). Accepts (Err e) (accepted command input)) c.in-Err-Refused.field-0-is
    c.in-Err-Refused.ensures.accepts in
    any_ok c.refused_output.result (AreRuns command input) (no_runs command input refusal refused)
