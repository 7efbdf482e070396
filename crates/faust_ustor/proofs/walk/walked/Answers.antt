use Rattle.std.proofs.Common.{◌≡◌, ◌+◌, ◌<◌, [], None, length, drop, sym, ap, subst, ◌∙◌, get_or, arith}
use Rattle.faust_types.specs.Versions.{clients_of, timestamp_at}
use Rattle.faust_types.specs.Ranges.{IsTupleFor}
use Rattle.faust_types.specs.declared.message.Tuple.{Tuple}
use Rattle.faust_types.specs.declared.operation.Kind.TheVariants.{Write}
use Rattle.faust_ustor.specs.declared.walk.Walk.{Walk}
use Rattle.faust_ustor.specs.InRange.{IsWalkFor}
use Rattle.faust_ustor.specs.Checks.{advanced, broken_tuple, walked}
use Rattle.faust_ustor.proofs.Elements.{at-all}
use Rattle.faust_ustor.proofs.Ranges.{walk_for-advanced}
use Rattle.faust_ustor.proofs.Steps.{tuple-another, tuple-room, walked-more}
use Rattle.faust_ustor.proofs.walk.walked.Goals as goal

pub advance-requires-clause-room : goal.advance-requires-clause-room
advance-requires-clause-room c =
    let blank : Tuple = record { client = 0; kind = Write; register = 0; tag = [] } in
    tuple-room c.args.key.now c.args.me c.as_slice.result.now (c.loop-before.before + 1) c.loop-before.walk
    (get_or c.as_slice-tuple-items.result.now c.loop-before.before blank) c.in_ok-check.ensures.verdict

pub loop-before-preserved : goal.loop-before-preserved
loop-before-preserved c =
    let blank : Tuple = record { client = 0; kind = Write; register = 0; tag = [] } in
    let key = c.args.key.now in
    let reply = c.args.reply.now in
    let n = clients_of reply.version.version in
    let i = c.loop-before.before in
    let walk = c.loop-before.walk in
    let tuple = get_or reply.pending i blank in
    let passed : broken_tuple key c.args.me reply.proofs (i + 1) walk tuple ≡ None =
    rw (c.as_slice.ensures, c.as_slice-tuple-items.ensures) at c.in_ok-check.ensures.verdict in
    let more : i < length reply.pending = omega (arith, c.loop-before-test.true, ap length c.as_slice-tuple-items.ensures) in
    let in_range : IsTupleFor n tuple = at-all (IsTupleFor n) reply.pending i blank more c.requires.reply.pending_in_range in
    let same : c.advance.new.self ≡ advanced walk tuple.client = rw (c.as_slice-tuple-items.ensures) at c.advance.ensures in
    let room = tuple-room key c.args.me reply.proofs (i + 1) walk tuple passed in
    let other = tuple-another key c.args.me reply.proofs (i + 1) walk tuple passed in
    let behind = drop (i + 1) reply.pending in
    record {
      items = c.loop-before.invariant.items;
      walk_for = subst (λ (w : Walk). IsWalkFor n c.args.me (timestamp_at reply.version.version c.args.me) w) (sym same)
          (walk_for-advanced n c.args.me _ walk tuple.client c.loop-before.invariant.walk_for in_range.client_in_range
          c.requires.client other room);
      rest = ap (λ (w : Walk). walked key c.args.me reply.proofs (i + 1 + 1) w behind) same
          ∙ sym (walked-more key c.args.me reply.proofs (i + 1) walk reply.pending i blank more passed)
          ∙ c.loop-before.invariant.rest;
    }
