-- The calls so far are counted, and none of them was one that fails.
use Rattle.std.proofs.Common.{◌≡◌, ℕ, ◌≤◌}
use Rattle.std.specs.Prelude.{Contains}
use Rattle.faust_io.specs.Calls.{number_of}
use Rattle.faust_io.proofs.calls.Calls.admit.Given as goal

abbrev pub invariant-loop-passed : goal.invariant-loop-passed
invariant-loop-passed l = record {
  counted : l.self.made ≡ number_of l.fn.self l.passed;
  listed : l.self.failing ≡ l.fn.self.failing;
  faults : l.self.faults ≡ l.fn.self.faults;
  none : (k : ℕ) → 1 ≤ k → k ≤ l.passed → Contains l.fn.self.failing (number_of l.fn.self k) → ⊥;
}
