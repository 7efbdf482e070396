use Rattle.std.proofs.Common.{◌<◌, length, sym, ap, ◌∙◌, refl, arith}
use Rattle.faust_liar.specs.declared.session.Session.{Session}
use Rattle.faust_liar.proofs.Calls.{arrival-range, arrival-spelled, branch-message, kept-arrive, session-is, session-range}
use Rattle.faust_liar.proofs.liar.Liar.arrive.Goals as goal

pub of_bytes-kept-requires : goal.of_bytes-kept-requires
of_bytes-kept-requires c =
    arrival-spelled _ c.args.self.now c.clients.result c.args.i c.args.message c.self.view_is c.self.invariant c.clients.ensures.count
    c.requires.message

pub receive-requires-clause-message : goal.receive-requires-clause-message
receive-requires-clause-message c =
    let own = session-range _ c.args.self.now c.self.view_is c.self.invariant c.args.i c.from-place.result c.requires.client
    c.from-place.ensures c.index.result.now c.index.ensures in
    let within : c.route-route.result < length c.self.inside.branches.items = omega (arith, own.on_a_branch, c.route-route.ensures) in
    branch-message _ c.self.invariant c.route-route.result c.index_mut-2.result.now c.index_mut-2.ensures.value within c.args.i
    c.of_bytes-kept.result (
    arrival-range _ c.args.self.now c.self.view_is c.self.invariant c.args.i c.from-place.result c.requires.client
    c.from-place.ensures c.index_mut.result.now c.index_mut.ensures.value c.self.inside.wire c.clients.result c.args.message
    c.of_bytes-kept.result refl c.clients.ensures.count c.requires.message c.of_bytes-kept.ensures
    )

pub invariant_of-self : goal.invariant_of-self
invariant_of-self c =
    let first = session-is _ c.args.self.now c.self.view_is c.self.invariant c.args.i c.from-place.result c.requires.client
    c.from-place.ensures c.index.result.now c.index.ensures in
    let second = session-is _ c.args.self.now c.self.view_is c.self.invariant c.args.i c.from-place.result c.requires.client
    c.from-place.ensures c.index_mut.result.now c.index_mut.ensures.value in
    kept-arrive _ c.args.self.now c.self.view_is c.self.invariant c.args.i c.from-place.result c.requires.client c.from-place.ensures
    c.index_mut.result.now c.index_mut.ensures.value c.receive.result c.route-route.result c.index_mut-2.result.now
    c.receive.new.branch c.receive.new.self c.of_bytes-kept.result
    (c.route-route.ensures ∙ ap (λ (z : Session). z.route) (first ∙ sym second)) c.index_mut-2.ensures.value (
    arrival-range _ c.args.self.now c.self.view_is c.self.invariant c.args.i c.from-place.result c.requires.client
    c.from-place.ensures c.index_mut.result.now c.index_mut.ensures.value c.self.inside.wire c.clients.result c.args.message
    c.of_bytes-kept.result refl c.clients.ensures.count c.requires.message c.of_bytes-kept.ensures
    ) c.receive.ensures.session c.receive.ensures.branch c.receive.ensures.session_kept c.receive.ensures.branch_kept
