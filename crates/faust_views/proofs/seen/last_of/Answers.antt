use Rattle.std.proofs.Common.{ℕ}
use Rattle.faust_types.specs.declared.operation.OpName.{OpName}
use Rattle.faust_views.proofs.EndsFound.{last-before, last-there}
use Rattle.faust_views.proofs.seen.last_of.Goals as goal

no_end : OpName × ℕ
no_end = (record { client = 0; t = 0 }, 0)

pub returns-then-name-i : goal.returns-then-name-i
unfolding no_end
returns-then-name-i c =
    last-there c.args.ends.now c.args.i c.loop-before.before no_end c.loop-before-test.true c.loop-before.invariant.0
    c.loop-before.invariant.1 c.if-name-i.true

pub loop-before-preserved : goal.loop-before-preserved
unfolding no_end
loop-before-preserved c =
    last-before c.args.ends.now c.args.i c.loop-before.before no_end c.loop-before-test.true c.loop-before.invariant.0
    c.loop-before.invariant.1 c.if-name-i.false
