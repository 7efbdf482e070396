use Rattle.std.proofs.Common.{◌≡◌, ◌+◌, ◌<◌, ◌++◌, ◌∷◌, [], true, is_none, List, length, drop, sym, ap, subst, ◌∙◌, get_or, arith, ℕ, append_assoc}
use Rattle.faust_types.specs.Versions.{clients_of, timestamp_at}
use Rattle.faust_types.specs.Ranges.{IsTupleFor}
use Rattle.faust_types.specs.declared.message.Tuple.{Tuple}
use Rattle.faust_types.specs.declared.operation.Kind.TheVariants.{Write}
use Rattle.faust_hash.specs.Chain.{chain_input}
use Rattle.faust_ustor.specs.declared.walk.Walk.{Walk}
use Rattle.faust_ustor.specs.InRange.{IsWalkFor}
use Rattle.faust_ustor.specs.Checks.{advanced, broken_tuple}
use Rattle.faust_ustor.proofs.Inputs.{none-from, rest_inputs, rest_inputs-more}
use Rattle.faust_ustor.proofs.Elements.{at-all}
use Rattle.faust_ustor.proofs.Ranges.{walk_for-advanced}
use Rattle.faust_ustor.proofs.Steps.{tuple-another, tuple-room}
use Rattle.faust_ustor.proofs.hashing.hashed_under.Goals as goal

pub advance-requires-clause-room : goal.advance-requires-clause-room
advance-requires-clause-room c =
    let blank : Tuple = record { client = 0; kind = Write; register = 0; tag = [] } in
    let tuple = get_or c.as_slice-tuple-items.result.now c.loop-before.before blank in
    tuple-room c.args.key.now c.args.me c.as_slice.result.now (c.loop-before.before + 1) c.loop-before.walk tuple
    (none-from _ (sym c.if-not-is_next.ensures))

pub loop-before-preserved : goal.loop-before-preserved
loop-before-preserved c =
    let blank : Tuple = record { client = 0; kind = Write; register = 0; tag = [] } in
    let key = c.args.key.now in
    let me = c.args.me in
    let reply = c.args.reply.now in
    let n = clients_of c.args.own.now in
    let i = c.loop-before.before in
    let walk = c.loop-before.walk in
    let tuple = get_or reply.pending i blank in
    let behind = drop (i + 1) reply.pending in
    let next : true ≡ is_none (broken_tuple key me reply.proofs (i + 1) walk tuple) =
    rw (c.as_slice.ensures, c.as_slice-tuple-items.ensures) at c.if-not-is_next.ensures in
    let passed = none-from (broken_tuple key me reply.proofs (i + 1) walk tuple) (sym next) in
    let more : i < length reply.pending = omega (arith, c.loop-before-test.true, ap length c.as_slice-tuple-items.ensures) in
    let in_range : IsTupleFor n tuple = at-all (IsTupleFor n) reply.pending i blank more c.requires.reply.pending_in_range in
    let same : c.advance.new.self ≡ advanced walk tuple.client = rw (c.as_slice-tuple-items.ensures) at c.advance.ensures in
    let input : c.in_ok-chain_input.field-0 ≡ chain_input walk.digest tuple.client =
    rw (c.as_slice-tuple-items.ensures) at c.in_ok-chain_input.ensures in
    let pushed : c.push.new.self ≡ c.loop-before.inputs ++ (c.in_ok-chain_input.field-0 ∷ []) = c.in_ok-push.ensures.ok in
    let room = tuple-room key me reply.proofs (i + 1) walk tuple passed in
    let rest = rest_inputs key me reply (i + 1 + 1) (advanced walk tuple.client) behind in
    let other = tuple-another key me reply.proofs (i + 1) walk tuple passed in
    record {
      items = c.loop-before.invariant.items;
      walk_for = subst (λ (w : Walk). IsWalkFor n me (timestamp_at reply.version.version me) w) (sym same)
          (walk_for-advanced n me _ walk tuple.client c.loop-before.invariant.walk_for in_range.client_in_range
          c.requires.pending.client_in_range other room);
      rest = ap (λ (w : Walk). c.push.new.self ++ rest_inputs key me reply (i + 1 + 1) w behind) same
          ∙ ap (λ (inputs : List (List ℕ)). inputs ++ rest) (pushed ∙ ap (λ (x : List ℕ). c.loop-before.inputs ++ (x ∷ [])) input)
          ∙ append_assoc c.loop-before.inputs (chain_input walk.digest tuple.client ∷ []) rest
          ∙ ap (λ (inputs : List (List ℕ)). c.loop-before.inputs ++ inputs)
          (sym (rest_inputs-more key me reply (i + 1) walk reply.pending i blank more (sym next)))
          ∙ c.loop-before.invariant.rest;
    }
