use Rattle.std.proofs.Common.{◌<◌, List, [], Some, get_or, take, sym, subst, arith}
use Rattle.faust_types.specs.declared.operation.OpName.{OpName}
use Rattle.faust_types.specs.declared.operation.Kind.TheVariants.{Write}
use Rattle.faust_types.specs.declared.message.Tuple.{Tuple}
use Rattle.faust_runs.specs.ForkViews.{names_on}
use Rattle.faust_views.specs.Grown.{Extends}
use Rattle.faust_views.proofs.Growing.{extends-none, extends-one}
use Rattle.faust_views.proofs.Numbered.{count-few, counted-more, length-names, names-more, none-counted, taken-few}
use Rattle.faust_views.proofs.Replies.{client-of}
use Rattle.faust_views.proofs.pending.add_tuples.Goals as goal

no_tuple : Tuple
no_tuple = record { client = 0; kind = Write; register = 0; tag = [] }

pub loop-tuple-init : goal.loop-tuple-init
loop-tuple-init c = (extends-none c.args.tree.now c.args.base c.requires.place, none-counted)

pub next_number-t-requires-clause-client : goal.next_number-t-requires-clause-client
unfolding no_tuple
next_number-t-requires-clause-client c =
    client-of c.args.version.now c.args.pending.now c.loop-tuple.tuple-index no_tuple c.requires.clients c.loop-tuple-test.true

pub next_number-t-requires-clause-few : goal.next_number-t-requires-clause-few
unfolding no_tuple
next_number-t-requires-clause-few c =
    let most = (client-of c.args.version.now c.args.pending.now c.loop-tuple.tuple-index no_tuple c.requires.clients
    c.loop-tuple-test.true).to_32 in
    count-few c.loop-tuple.counts (take c.loop-tuple.tuple-index c.args.pending.now)
    (get_or c.args.pending.now c.loop-tuple.tuple-index no_tuple).client (omega arith) c.loop-tuple.invariant.1
    (taken-few c.args.pending.now c.loop-tuple.tuple-index c.loop-tuple-test.true c.requires.few)

pub add-requires-clause-few : goal.add-requires-clause-few
add-requires-clause-few c =
    let count = length-names c.args.version.now [] (take c.loop-tuple.tuple-index c.args.pending.now) in
    let few = taken-few c.args.pending.now c.loop-tuple.tuple-index c.loop-tuple-test.true c.requires.few in
    let most = c.loop-tuple.invariant.0.few in
    let room = c.requires.room in
    omega arith

pub loop-tuple-preserved : goal.loop-tuple-preserved
unfolding no_tuple
loop-tuple-preserved c =
    let most = (client-of c.args.version.now c.args.pending.now c.loop-tuple.tuple-index no_tuple c.requires.clients
    c.loop-tuple-test.true).to_32 in
    let below : (get_or c.args.pending.now c.loop-tuple.tuple-index no_tuple).client < 33 = omega arith in (
      subst (λ (names : List OpName). Extends c.args.tree.now c.add.new.self c.args.base (Some c.in_ok-add.field-0) names)
          (sym (names-more c.args.version.now c.args.pending.now c.loop-tuple.tuple-index no_tuple c.loop-tuple.counts
          c.next_number-t.result
          c.loop-tuple-test.true c.loop-tuple.invariant.1 below c.next_number-t.ensures.number))
          (extends-one c.args.tree.now c.loop-tuple.tree c.add.new.self c.args.base c.loop-tuple.place
          (names_on c.args.version.now [] (take c.loop-tuple.tuple-index c.args.pending.now)) _ c.in_ok-add.field-0
          c.loop-tuple.invariant.0 c.in_ok-add.ensures.ok c.in_ok-add.ensures.path c.in_ok-add.ensures.kept),
      counted-more c.args.pending.now c.loop-tuple.tuple-index no_tuple c.loop-tuple.counts c.next_number-t.new.counts
          c.loop-tuple-test.true c.loop-tuple.invariant.1 below c.next_number-t.ensures.counts,
    )
