-- Which messages may arrive, and what every state of the liar keeps: its type rests on this file.
use Rattle.std.specs.Prelude.{◌≡◌, ℕ, ◌+◌, ◌<◌, ◌≤◌, length, List, Option, Some, None, IfSome}
use Rattle.std.specs.List.{AllByRecursion}
use Rattle.faust_types.specs.Clients.{IsClientCount, IsClient}
use Rattle.faust_types.specs.Ranges.{IsWire, IsSubmitFor, IsReplyFor, IsCommitFor}
use Rattle.faust_types.specs.Versions.{timestamp_at}
use Rattle.faust_types.specs.declared.message.Submit.{Submit}
use Rattle.faust_types.specs.declared.message.Reply.{Reply}
use Rattle.faust_types.specs.declared.message.Commit.{Commit}
use Rattle.faust_types.specs.declared.message.Message.{Message}
use Rattle.faust_types.specs.declared.message.Message.TheVariants as messages
use Rattle.faust_wire.specs.Grammar.{IsSpellingOf}
use Rattle.faust_server.specs.States.{IsStateFor}
use Rattle.faust_liar.specs.Lies.{LiarState, session_at, session_count}
use Rattle.faust_liar.specs.declared.session.Session.{Session}

-- Where a COMMIT rides on a SUBMIT of client i, it is that of the operation before.
abbrev pub IsBehind : ℕ → Submit → Option Commit → Type 0
IsBehind i m None = Unit {0}
IsBehind i m (Some commit) = m.t ≡ timestamp_at commit.version i + 1

-- A message that client i sends to the server: a SUBMIT or a COMMIT.
abbrev pub IsForServer : ℕ → ℕ → Message → Type 0
IsForServer n i (messages.Submit m) = IsSubmitFor n m × IsBehind i m m.commit
IsForServer n i (messages.Reply m) = ⊥
IsForServer n i (messages.Commit m) = IsCommitFor n m
IsForServer n i (messages.Peer m) = ⊥
IsForServer n i (messages.Hello client) = ⊥

-- The bytes are the spelling of such a message.
pub record IsArrival (wire n i : ℕ) (bytes : List ℕ) : Type 0 where
  pub message : Message
  pub spelled : IsSpellingOf wire n bytes message
  pub for_server : IsForServer n i message

-- A message that the server sends to a client.
abbrev pub IsAnswer : ℕ → Message → Type 0
IsAnswer n (messages.Submit m) = ⊥
IsAnswer n (messages.Reply m) = IsReplyFor n m
IsAnswer n (messages.Commit m) = ⊥
IsAnswer n (messages.Peer m) = ⊥
IsAnswer n (messages.Hello client) = ⊥

-- A reply, where there is one.
abbrev pub IsReplyIfAny : ℕ → Option Reply → Type 0
IsReplyIfAny n reply = IfSome reply (IsReplyFor n)

-- A session of client i, with so many branches.
pub record IsSessionFor (n branches i : ℕ) (session : Session) : Type 0 where
  pub on_a_branch : session.route < branches
  pub arrived_in_range : AllByRecursion (IsForServer n i) session.arrived
  pub replies_in_range : AllByRecursion (IsAnswer n) session.replies
  pub taken_before : session.taken ≤ length session.replies

-- A state for n clients: from 1 to 8 branches, each a state of the honest server for these clients, and a session
-- for each client.
pub record IsLiarStateFor (n : ℕ) (st : LiarState) : Type 0 where
  pub wire_known : IsWire st.wire
  pub count : IsClientCount n
  pub sessions_paired : length st.sessions ≡ n
  pub one_branch : 1 ≤ length st.branches
  pub few_branches : length st.branches ≤ 8
  pub branches_in_range : AllByRecursion (IsStateFor n) st.branches
  pub sessions_in_range : (i : ℕ) → IsClient n i → IsSessionFor n (length st.branches) i (session_at st i)

-- A state for as many clients as it has sessions.
abbrev pub IsLiarState : LiarState → Type 0
IsLiarState st = IsLiarStateFor (session_count st) st

-- The liar is for this version of the wire and this number of clients.
pub record IsFor (wire n : ℕ) (st : LiarState) : Type 0 where
  pub same_wire : st.wire ≡ wire
  pub same_count : session_count st ≡ n
