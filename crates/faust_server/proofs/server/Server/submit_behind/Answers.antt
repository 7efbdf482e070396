use Rattle.std.proofs.Common.{◌≡◌, true, Result, sym, ap, ◌∙◌, subst, rules}
use Rattle.std.proofs.lemmas.Bool.{cond-true}
use Rattle.faust_types.specs.Versions.{timestamp_at}
use Rattle.faust_server.specs.declared.refusal.OutOfTurn.{OutOfTurn}
use Rattle.faust_server.specs.Rows.{State, turn_at, is_commit_in_turn, committed, submitted_alone, then_submitted}
use Rattle.faust_server.specs.States.{IsState}
use Rattle.faust_server.proofs.Rows.{back_again, refused-same, refused-behind}
use Rattle.faust_server.proofs.server.Server.submit_behind.Goals as goal

pub take_back-requires-clause-kept : goal.take_back-requires-clause-kept
take_back-requires-clause-kept c =
    let before = c.in_ok-before.ensures in
    let same = refused-same c.in-Err.refusal _ _ _ c.in-Err.ensures.row in
    subst IsState (sym (back_again c.args.self.now c.args.i c.args.commit _ _ _ before.ok same before.replaced)) c.turn.ensures.kept

pub returns-in-Err-clause-row : goal.returns-in-Err-clause-row
returns-in-Err-clause-row c =
    let st = c.args.self.now in
    let i = c.args.i in
    let commit = c.args.commit in
    let before = c.in_ok-before.ensures in
    let same = refused-same c.in-Err.refusal _ _ _ c.in-Err.ensures.row in
    let due : is_commit_in_turn (turn_at st i) (timestamp_at commit.version i) ≡ true = search rules in
    let both : then_submitted (committed st i commit) i c.args.m ≡ submitted_alone c.take_riding.new.self i c.args.m =
    ap (λ (row : Result State OutOfTurn). then_submitted row i c.args.m) (cond-true _ _ _ due)
    ∙ ap (λ (z : State). submitted_alone z i c.args.m) (sym before.ok) in
    refused-behind c.in-Err.refusal _ _ st _ _ _ both
    (c.take_back.ensures ∙ back_again st i commit _ _ _ before.ok same before.replaced)
    c.in-Err.ensures.row
