-- How many clients a run has, and which numbers they have.
use Rattle.std.specs.Prelude.{ℕ, ◌≤◌}

-- A run has from 2 to 32 clients.
pub record IsClientCount (n : ℕ) : Type 0 where
  pub at_least_two : 2 ≤ n
  pub at_most_32 : n ≤ 32

-- k is one of n clients, and so names the register that this client writes.
pub record IsClient (n k : ℕ) : Type 0 where
  pub from_one : 1 ≤ k
  pub to_n : k ≤ n
