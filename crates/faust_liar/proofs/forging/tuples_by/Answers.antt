use Rattle.std.proofs.Common.{◌≡◌, ◌+◌, take, arith}
use Rattle.faust_types.specs.Messages.{tuples_by}
use Rattle.faust_liar.proofs.Edits.{tuples-own, tuples-other}
use Rattle.faust_liar.proofs.forging.tuples_by.Goals as goal
use Rattle.faust_liar.proofs.forging.tuples_by.Goals.{then-tuple-k, else-tuple-k}

pub loop-tuple-preserved : goal.loop-tuple-preserved
loop-tuple-preserved c = elim c.if-tuple-k.branch [
  | then-tuple-k w ↦
      let more : tuples_by c.args.k (take (c.loop-tuple.tuple-index + 1) c.args.pending.now) ≡ tuples_by c.args.k
      (take c.loop-tuple.tuple-index c.args.pending.now) + 1 = tuples-own c.args.k c.args.pending.now c.loop-tuple.tuple-index _
      c.loop-tuple-test.true w.if-tuple-k.true in
      record {
        counted = omega (arith, more, w.count-is, c.loop-tuple.invariant.counted);
        few = omega (arith, w.count-is, c.loop-tuple.invariant.few);
      }
  | else-tuple-k w ↦
      let same : tuples_by c.args.k (take (c.loop-tuple.tuple-index + 1) c.args.pending.now) ≡ tuples_by c.args.k
      (take c.loop-tuple.tuple-index c.args.pending.now) = tuples-other c.args.k c.args.pending.now c.loop-tuple.tuple-index _
      c.loop-tuple-test.true w.if-tuple-k.false in
      record {
        counted = omega (arith, same, w.count-is, c.loop-tuple.invariant.counted);
        few = omega (arith, w.count-is, c.loop-tuple.invariant.few);
      }
]
