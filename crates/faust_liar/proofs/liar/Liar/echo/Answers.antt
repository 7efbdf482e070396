use Rattle.std.proofs.Common.{◌<◌, length, rules}
use Rattle.faust_liar.proofs.Calls.{branch-message, message-range, kept-echo, echo-due}
use Rattle.faust_liar.proofs.liar.Liar.echo.Goals as goal

pub handle-requires-clause-message : goal.handle-requires-clause-message
handle-requires-clause-message c =
    let within : c.args.to < length c.self.inside.branches.items = search rules in
    branch-message _ c.self.invariant c.args.to c.index_mut.result.now c.index_mut.ensures.value within c.args.i c.in_ok-message.message (
    message-range _ c.args.self.now c.self.view_is c.self.invariant c.args.i c.from.result c.requires c.from.ensures
    c.index-session.result.now c.index-session.ensures c.args.k c.in-Some.kept.now c.in_ok-message.message c.in-Some.ensures
    c.in_ok-message.ensures
    )

pub invariant_of-self-2 : goal.invariant_of-self-2
invariant_of-self-2 c =
    let within : c.args.to < length c.self.inside.branches.items = search rules in
    kept-echo _ c.args.self.now c.self.view_is c.self.invariant c.args.i c.from.result c.requires c.from.ensures
    c.index-session.result.now c.index-session.ensures c.args.to c.index_mut.result.now c.handle.new.server c.in_ok-message.message
    c.in_ok-_reply._reply c.index_mut.ensures.value within (
    message-range _ c.args.self.now c.self.view_is c.self.invariant c.args.i c.from.result c.requires c.from.ensures
    c.index-session.result.now c.index-session.ensures c.args.k c.in-Some.kept.now c.in_ok-message.message c.in-Some.ensures
    c.in_ok-message.ensures
    ) c.in_ok-_reply.ensures.ok

pub returns-clause-due : goal.returns-clause-due
returns-clause-due c =
    let within : c.args.to < length c.self.inside.branches.items = search rules in
    echo-due _ c.args.self.now c.self.view_is c.self.invariant c.args.i c.from.result c.requires c.from.ensures
    c.index-session.result.now c.index-session.ensures c.args.k c.args.to c.index_mut.result.now c.handle.new.server c.in-Some.kept.now
    c.in_ok-message.message c.in_ok-_reply._reply c.in-Some.ensures c.in_ok-message.ensures c.index_mut.ensures.value within
    c.in_ok-_reply.ensures.ok
