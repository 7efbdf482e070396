use Rattle.std.proofs.Common.{Option, IfSome, sym, subst}
use Rattle.faust_types.specs.Ranges.{IsCommitFor}
use Rattle.faust_types.specs.declared.message.Commit.{Commit}
use Rattle.faust_server.specs.Rows.{client_count}
use Rattle.faust_server.proofs.Rows.{submitted_alone-in_range, committed-in_range, then_submitted-in_range, few-pending, reply-in_range}
use Rattle.faust_server.proofs.server.Server.submit.Goals as goal

pub returns-in-None-clause-few_pending : goal.returns-in-None-clause-few_pending
returns-in-None-clause-few_pending c =
    let n = client_count c.args.self.now in
    few-pending n _ _ _ _ c.submit_alone.ensures.row
    (submitted_alone-in_range n c.args.self.now c.args.i c.args.m c.submit_alone.ensures.kept c.requires.client c.requires.message)

pub returns-in-None-clause-in_range : goal.returns-in-None-clause-in_range
returns-in-None-clause-in_range c =
    let n = client_count c.args.self.now in
    reply-in_range n _ _ _ _ c.submit_alone.ensures.row
    (submitted_alone-in_range n c.args.self.now c.args.i c.args.m c.submit_alone.ensures.kept c.requires.client c.requires.message)

pub returns-in-Some-clause-few_pending : goal.returns-in-Some-clause-few_pending
returns-in-Some-clause-few_pending c =
    let n = client_count c.args.self.now in
    let riding : IsCommitFor n c.in-Some.commit =
    subst (λ (z : Option Commit). IfSome z (IsCommitFor n)) (sym c.in-Some.ensures.value) c.requires.message.commit_in_range in
    few-pending n _ _ _ _ c.submit_behind.ensures.row
    (then_submitted-in_range n _ c.args.i c.args.m _
    (committed-in_range n c.args.self.now c.args.i c.in-Some.commit c.submit_behind.ensures.kept c.requires.client riding)
    c.requires.client c.requires.message)

pub returns-in-Some-clause-in_range : goal.returns-in-Some-clause-in_range
returns-in-Some-clause-in_range c =
    let n = client_count c.args.self.now in
    let riding : IsCommitFor n c.in-Some.commit =
    subst (λ (z : Option Commit). IfSome z (IsCommitFor n)) (sym c.in-Some.ensures.value) c.requires.message.commit_in_range in
    reply-in_range n _ _ _ _ c.submit_behind.ensures.row
    (then_submitted-in_range n _ c.args.i c.args.m _
    (committed-in_range n c.args.self.now c.args.i c.in-Some.commit c.submit_behind.ensures.kept c.requires.client riding)
    c.requires.client c.requires.message)
