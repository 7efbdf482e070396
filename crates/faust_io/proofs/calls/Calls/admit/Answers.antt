use Rattle.std.proofs.Common.{rules, arith}
use Rattle.faust_io.proofs.Admitted.{is_next, is_next_back, none_more}
use Rattle.faust_io.proofs.calls.Calls.admit.Goals as goal

pub returns-then-fails-clause-admits : goal.returns-then-fails-clause-admits
returns-then-fails-clause-admits c =
    let before = c.loop-passed.invariant in
    record {
      passed = before.none;
      refused = λ _. is_next c.args.self.now c.loop-passed.self c.loop-passed.passed before.counted before.listed
          (c.is_next_failing-fails.ensures.0 c.if-fails.true);
    }

pub loop-passed-preserved : goal.loop-passed-preserved
loop-passed-preserved c =
    let before = c.loop-passed.invariant in
    record {
      counted = grind (arith, c.succeed.ensures, before.counted);
      listed = search rules;
      faults = search rules;
      none = none_more c.args.self.now c.loop-passed.passed before.none
          (λ has. cc (c.is_next_failing-fails.ensures.1
          (is_next_back c.args.self.now c.loop-passed.self c.loop-passed.passed before.counted before.listed has)));
    }

pub returns-clause-admits : goal.returns-clause-admits
returns-clause-admits c = record { passed = λ k one most. c.loop-passed.invariant.none k one (omega arith); refused = λ below. absurd (omega arith) }
