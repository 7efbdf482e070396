-- Calls in memory that are admitted one behind the other.
use Rattle.std.proofs.Common.{◌≡◌, ℕ, ◌+◌, ◌≤◌, arith, subst, sym, below_more}
use Rattle.std.specs.Prelude.{Contains}
use Rattle.faust_io.specs.declared.calls.Calls.{Calls}
use Rattle.faust_io.specs.Calls.{next, number_of, IsNextFailing}

number_of-next : (calls now : Calls) (k : ℕ) → now.made ≡ number_of calls k → next now.made ≡ number_of calls (k + 1)
number_of-next calls now k counted = grind arith

-- The next call is the one behind the first k of these calls.
pub is_next : (calls now : Calls) (k : ℕ) → now.made ≡ number_of calls k → now.failing ≡ calls.failing → IsNextFailing now
    → Contains calls.failing (number_of calls (k + 1))
is_next calls now k counted listed failing =
    subst (λ x. Contains calls.failing x) (number_of-next calls now k counted)
    (subst (λ xs. Contains xs (next now.made)) listed failing)

pub is_next_back : (calls now : Calls) (k : ℕ) → now.made ≡ number_of calls k → now.failing ≡ calls.failing
    → Contains calls.failing (number_of calls (k + 1)) → IsNextFailing now
is_next_back calls now k counted listed failing =
    subst (λ xs. Contains xs (next now.made)) (sym listed)
    (subst (λ x. Contains calls.failing x) (sym (number_of-next calls now k counted)) failing)

-- None of the first k calls fails, and the one behind them doesn't.
pub none_more : (calls : Calls) (k : ℕ) → ((i : ℕ) → 1 ≤ i → i ≤ k → Contains calls.failing (number_of calls i) → ⊥)
    → (Contains calls.failing (number_of calls (k + 1)) → ⊥)
    → (i : ℕ) → 1 ≤ i → i ≤ k + 1 → Contains calls.failing (number_of calls i) → ⊥
none_more calls k none here i one most =
    below_more (λ j. 1 ≤ j → Contains calls.failing (number_of calls j) → ⊥) (k + 1)
    (λ j below from. none j from (omega arith)) (λ from. here) i (omega arith) one
