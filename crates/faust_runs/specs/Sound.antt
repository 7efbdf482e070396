-- When a ledger is sound: all that the proofs on views and cuts need of a record. The promise that the ledger of a clean
-- run is sound rests on this file.
use Rattle.std.specs.Prelude.{◌≡◌, ◌↔◌, ℕ, ◌<◌, ◌≤◌, suc, List, [], Option, Some, None, IfSome, length}
use Rattle.faust_types.specs.Clients.{IsClient}
use Rattle.faust_types.specs.Versions.{Vector, timestamp_at}
use Rattle.faust_types.specs.declared.config.Config.{Config}
use Rattle.faust_types.specs.declared.operation.Kind.TheVariants.{Write}
use Rattle.faust_types.specs.declared.operation.Operation.{Operation}
use Rattle.faust_agent.specs.State.{version_at}
use Rattle.faust_agent.specs.InRange.{IsClientOf}
use Rattle.faust_agent.specs.declared.client.Client.{Client}
use Rattle.faust_lists.specs.Names.{Has}
use Rattle.faust_forks.specs.Books.{Begun, Done, find_begun}
use Rattle.faust_forks.specs.Sources.{IsMade}
use Rattle.faust_forks.specs.Pasts.{Past}
use Rattle.faust_forks.specs.Answers.{AreAnswered, IsWritten}
use Rattle.faust_forks.specs.Forks.{IsGround, IsOwn, IsWaiting}
use Rattle.faust_record.specs.Made.{made_behind}
use Rattle.faust_record.specs.declared.entry.Entry.{Entry}
use Rattle.faust_premises.specs.Premises.{hashed_in_run}
use Rattle.faust_runs.specs.Ledgers.{client_after}

-- How many operations a client began that completed t.
abbrev pub started_count : Option Operation → ℕ → ℕ
started_count None t = t
started_count (Some op) t = suc t

-- The operation that client me waits for is its own, and began.
pub record IsAwaited (started : List Begun) (me : ℕ) (op : Operation) : Type 0 where
  pub began : IsWaiting started me op
  pub own_name : op.name.client ≡ me

-- What client me holds is what the ledger has of it: the own version is that of its last completion, the pending
-- operation is its last one that began, and the digest is that of the value that it wrote last.
pub record IsHolding (n : ℕ) (started : List Begun) (book : List Done) (me : ℕ) (own : Vector) (waiting : Option Operation)
    (last : Option (List ℕ)) : Type 0 where
  pub owned : IsOwn n book me own
  pub pending : IfSome waiting (IsAwaited started me)
  pub written : IsWritten started me (started_count waiting (timestamp_at own me)) last
  pub fresh : (t : ℕ) → started_count waiting (timestamp_at own me) < t → find_begun started me t ≡ None

abbrev pub Holds : ℕ → Past → ℕ → Client → Type 0
Holds n past me st = IsHolding n past.started past.book me (version_at st me) st.waiting st.last

-- Operations have numbers from 1, and clients write their own registers.
pub record IsProper (k t : ℕ) (begun : Begun) : Type 0 where
  pub from_one : 1 ≤ t
  pub own_register : begun.kind ≡ Write → begun.register ≡ k

abbrev pub AreProper : List Begun → Type 0
AreProper started = (k t : ℕ) (begun : Begun) → find_begun started k t ≡ Some begun → IsProper k t begun

-- The ledger of entries is sound: no two hashed inputs have one digest, each completion has its fork, and what was made
-- is explained (`IsGround`); each read answered what was written last in its fork; its inputs and its bodies are those
-- that the entries hashed and made; and each client is in range, and holds what the ledger has of it.
pub record IsSoundLedger (config : Config) (entries : List Entry) (past : Past) : Type 0 where
  pub ground : IsGround config.clients past
  pub answered : AreAnswered past.started past.book
  pub proper : AreProper past.started
  pub counted : past.entry ≡ length entries
  pub hashed_is : past.hashed ≡ hashed_in_run config entries
  pub made_is : (body : List ℕ) → IsMade past.made body ↔ Has (made_behind config [] entries) body
  pub in_range : (i : ℕ) → IsClient config.clients i → IsClientOf config i (client_after config i entries)
  pub held : (i : ℕ) → IsClient config.clients i → Holds config.clients past i (client_after config i entries)
