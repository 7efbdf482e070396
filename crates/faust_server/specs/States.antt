-- What every state of the server keeps, and every reply. The type of the server rests on this file.
use Rattle.std.specs.Prelude.{◌≡◌, ℕ, ◌^◌, ◌<◌, ◌≤◌, if◌then◌else◌, length, IfSome}
use Rattle.std.specs.List.{AllByRecursion}
use Rattle.faust_types.specs.Clients.{IsClientCount, IsClient}
use Rattle.faust_types.specs.Ranges.{IsDigest, IsKnownBy, IsMem, IsTupleFor, IsReplyFor}
use Rattle.faust_types.specs.Messages.{tuples_by}
use Rattle.faust_server.specs.Rows.{State, Served, client_count, memory_at, version_at, turn_at}

-- A state for n clients: c is one of them, what is held of each client is in range, and each client has at most
-- one pending tuple, and none where it is committed.
pub record IsStateFor (n : ℕ) (st : State) : Type 0 where
  pub count : IsClientCount n
  pub memory_paired : length st.memory ≡ n
  pub versions_paired : length st.versions ≡ n
  pub proofs_paired : length st.proofs ≡ n
  pub turns_paired : length st.turns ≡ n
  pub c_in_range : IsClient n st.c
  pub memory_in_range : (k : ℕ) → IsClient n k → IfSome (memory_at st k) IsMem
  pub versions_known : (k : ℕ) → IsClient n k → IsKnownBy n k (version_at st k)
  pub pending_in_range : AllByRecursion (IsTupleFor n) st.pending
  pub one_pending : (k : ℕ) → IsClient n k → tuples_by k st.pending ≤ (if (turn_at st k).uncommitted then 1 else 0)
  pub proofs_sized : AllByRecursion (λ proof. IfSome proof IsDigest) st.proofs
  pub turns_below : (k : ℕ) → IsClient n k → (turn_at st k).last < 2 ^ 40

-- A state for as many clients as it has turns.
abbrev pub IsState : State → Type 0
IsState st = IsStateFor (client_count st) st

-- What a SUBMIT gives in such a state: another one, and a reply in range, which shows fewer operations than there
-- are clients.
pub record IsServedFor (n : ℕ) (served : Served) : Type 0 where
  pub state_in_range : IsStateFor n served.state
  pub reply_in_range : IsReplyFor n served.reply
  pub few_pending : length served.reply.pending < n
