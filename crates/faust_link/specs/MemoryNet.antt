-- How a net in memory answers each call. The promises on it rest on this.
use Rattle.std.specs.Prelude.{ℕ, List}

-- For how many clients it is, which of its `connect` calls fail, how many were made, how many streams wait to be
-- accepted, and its count of faults.
pub record NetView : Type 0 where
  pub clients : ℕ
  pub failing : List ℕ
  pub connects : ℕ
  pub waiting : ℕ
  pub faults : ℕ

abbrev pub new_net : ℕ → List ℕ → NetView
new_net clients failing = record { clients = clients; failing = failing; connects = 0; waiting = 0; faults = 0 }
