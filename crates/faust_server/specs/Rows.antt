-- The honest server: its state, and its two rows. Each promise of the crate rests on this file. The first
-- definitions say what the rows read and write; the rows themselves, `committed` and `submitted`, stand at the end.
use Rattle.std.specs.Prelude.{◌≡◌, ℕ, ◌+◌, ◌-◌, ◌==◌, ◌&&◌, Bool, true, false, not, if◌then◌else◌, List, [], ◌∷◌, ◌++◌, length, Option, Some, None, Result, Ok, Err, filter, position, drop, replicate, slice_index_or, slice_set}
use Rattle.faust_types.specs.Versions.{Vector, timestamp_at}
use Rattle.faust_types.specs.Messages.{unmade, value_of}
use Rattle.faust_types.specs.declared.operation.Kind.{Kind}
use Rattle.faust_types.specs.declared.operation.Kind.TheVariants.{Write, Read}
use Rattle.faust_types.specs.declared.message.Known.{Known}
use Rattle.faust_types.specs.declared.message.Tuple.{Tuple}
use Rattle.faust_types.specs.declared.message.Mem.{Mem}
use Rattle.faust_types.specs.declared.message.ReadPart.{ReadPart}
use Rattle.faust_types.specs.declared.message.Submit.{Submit}
use Rattle.faust_types.specs.declared.message.Reply.{Reply}
use Rattle.faust_types.specs.declared.message.Commit.{Commit}
use Rattle.faust_server.specs.Ahead.{is_ahead}
use Rattle.faust_server.specs.declared.turn.Turn.{Turn}
use Rattle.faust_server.specs.declared.refusal.OutOfTurn.{OutOfTurn}
use Rattle.faust_server.specs.declared.refusal.ServerError.{ServerError}
use Rattle.faust_server.specs.declared.refusal.ServerError.TheVariants as refusals

-- What the server holds: for each client k the memory MEM[k], the last committed version SVER[k] with its tag,
-- the proof tag P[k] and the turn; the client c whose version is the greatest; and the list L of submitted
-- operations that the version of c doesn't stand for, in the order in which they came.
pub record State : Type 0 where
  pub memory : List (Option Mem)
  pub versions : List Known
  pub c : ℕ
  pub pending : List Tuple
  pub proofs : List (Option (List ℕ))
  pub turns : List Turn

-- For how many clients the server is.
abbrev pub client_count : State → ℕ
client_count st = length st.turns

-- The turn of a client that submitted nothing.
abbrev pub first_turn : Turn
first_turn = record { last = 0; uncommitted = false }

-- The state of a server that no message reached.
abbrev pub first_state : ℕ → State
first_state n = record {
  memory = replicate n None;
  versions = replicate n (unmade n);
  c = 1;
  pending = [];
  proofs = replicate n None;
  turns = replicate n first_turn;
}

-- MEM[k], SVER[k], P[k] and the turn of client k.
abbrev pub memory_at : State → ℕ → Option Mem
memory_at st k = slice_index_or st.memory (k - 1) None

abbrev pub version_at : State → ℕ → Known
version_at st k = slice_index_or st.versions (k - 1) (unmade 0)

abbrev pub proof_at : State → ℕ → Option (List ℕ)
proof_at st k = slice_index_or st.proofs (k - 1) None

abbrev pub turn_at : State → ℕ → Turn
turn_at st k = slice_index_or st.turns (k - 1) first_turn

-- SVER[c].
abbrev pub greatest : State → Known
greatest st = version_at st st.c

-- A SUBMIT with number t is in turn where its client is committed and t is the last number plus one; a COMMIT
-- of operation t where its client is uncommitted and t is the last number.
abbrev pub is_submit_in_turn : Turn → ℕ → Bool
is_submit_in_turn turn t = not turn.uncommitted && (t == turn.last + 1)

abbrev pub is_commit_in_turn : Turn → ℕ → Bool
is_commit_in_turn turn t = turn.uncommitted && (t == turn.last)

-- The number that is due, and the refusal of another.
abbrev pub expected_of : Turn → ℕ
expected_of turn = if turn.uncommitted then turn.last else turn.last + 1

abbrev pub out_of_turn : Turn → ℕ → OutOfTurn
out_of_turn turn got = record { expected = expected_of turn; got = got }

-- SUBMIT, step 1: a write puts its value into the memory of its client, a read keeps the value that is there,
-- and both put their number and their data tag beside it.
abbrev pub value_after : Kind → Option (List ℕ) → Option Mem → Option (List ℕ)
value_after Write value held = value
value_after Read value held = value_of held

abbrev pub renewed : Option Mem → Submit → Mem
renewed held m = record { t = m.t; value = value_after m.kind m.value held; tag = m.data_tag }

abbrev pub remembered : State → ℕ → Submit → State
remembered st i m = record st { memory = slice_set st.memory (i - 1) (Some (renewed (memory_at st i) m)) }

-- SUBMIT, step 2: what the reply holds.
abbrev pub read_part : State → Kind → ℕ → Option ReadPart
read_part st Write j = None
read_part st Read j = Some (record { register = j; version = version_at st j; mem = memory_at st j })

abbrev pub replied : State → Submit → Reply
replied st m = record {
  c = st.c;
  version = greatest st;
  pending = st.pending;
  proofs = st.proofs;
  read = read_part st m.kind m.register;
}

-- SUBMIT, step 3: the operation is pending, and its client uncommitted.
abbrev pub tuple_of : ℕ → Submit → Tuple
tuple_of i m = record { client = i; kind = m.kind; register = m.register; tag = m.submit_tag }

abbrev pub appended : State → ℕ → Submit → State
appended st i m = record st {
  pending = st.pending ++ tuple_of i m ∷ [];
  turns = slice_set st.turns (i - 1) (record { last = m.t; uncommitted = true });
}

-- COMMIT, step 1: a version that is ahead of SVER[c] makes its client c, and what it stands for is pending no
-- more. That is the list from behind the tuple of client i on; all of it where there is none.
abbrev pub behind_place : Option ℕ → List Tuple → List Tuple
behind_place None pending = pending
behind_place (Some place) pending = drop (place + 1) pending

abbrev pub behind : ℕ → List Tuple → List Tuple
behind i pending = behind_place (position (λ (tuple : Tuple). tuple.client == i) pending) pending

-- The list without the tuple of client i.
abbrev pub without : ℕ → List Tuple → List Tuple
without i pending = filter (λ (tuple : Tuple). not (tuple.client == i)) pending

abbrev pub advanced : State → ℕ → Vector → State
advanced st i version =
    if is_ahead version.timestamps (greatest st).version.timestamps
    then record st { c = i; pending = behind i st.pending }
    else st

-- COMMIT, step 2: the version and the proof are the client's, nothing of it is pending, and it is committed.
abbrev pub settled : State → ℕ → Commit → State
settled st i m = record st {
  versions = slice_set st.versions (i - 1) (record { maker = i; version = m.version; tag = m.commit_tag });
  pending = without i st.pending;
  proofs = slice_set st.proofs (i - 1) (Some m.proof_tag);
  turns = slice_set st.turns (i - 1) (record (turn_at st i) { uncommitted = false });
}

-- The row COMMIT: out of turn, or the state after both steps.
abbrev pub committed : State → ℕ → Commit → Result State OutOfTurn
committed st i m =
    if is_commit_in_turn (turn_at st i) (timestamp_at m.version i)
    then Ok (settled (advanced st i m.version) i m)
    else Err (out_of_turn (turn_at st i) (timestamp_at m.version i))

-- What a SUBMIT gives: the state after it, and the reply.
pub record Served : Type 0 where
  pub state : State
  pub reply : Reply

-- The three steps of a SUBMIT.
abbrev pub served : State → ℕ → Submit → Served
served st i m = record { state = appended (remembered st i m) i m; reply = replied (remembered st i m) m }

-- The row SUBMIT where no COMMIT rides on it: out of turn, or the state and the reply.
abbrev pub submitted_alone : State → ℕ → Submit → Result Served OutOfTurn
submitted_alone st i m =
    if is_submit_in_turn (turn_at st i) m.t
    then Ok (served st i m)
    else Err (out_of_turn (turn_at st i) m.t)

-- A COMMIT that rides on a SUBMIT has its row first, and the SUBMIT has its own in the state after it. Where one
-- of the two is out of turn, so is the message.
abbrev pub ridden : State → ℕ → Option Commit → Result State OutOfTurn
ridden st i None = Ok st
ridden st i (Some commit) = committed st i commit

abbrev pub then_submitted : Result State OutOfTurn → ℕ → Submit → Result Served OutOfTurn
then_submitted (Ok st) i m = submitted_alone st i m
then_submitted (Err refused) i m = Err refused

-- The row SUBMIT.
abbrev pub submitted : State → ℕ → Submit → Result Served OutOfTurn
submitted st i m = then_submitted (ridden st i m.commit) i m

-- The SUBMIT without the COMMIT that rides on it.
abbrev pub alone : Submit → Submit
alone m = record m { commit = None }

-- An answer to a SUBMIT is its row's: the row's reply in the row's state, or the row's refusal in the state as
-- before. Only want of memory is free, and leaves the state as before too.
abbrev pub Serves : Result Reply ServerError → State → State → Result Served OutOfTurn → Type 0
Serves (Ok reply) old new row = row ≡ Ok (record { state = new; reply = reply })
Serves (Err (refusals.OutOfTurn expected got)) old new row = (row ≡ Err (record { expected = expected; got = got })) × (new ≡ old)
Serves (Err refusals.OutOfMemory) old new row = new ≡ old

-- The same of a COMMIT, which takes no memory.
abbrev pub Settles : {Done : Type 0} → Result Done OutOfTurn → State → State → Result State OutOfTurn → Type 0
Settles (Ok done) old new row = row ≡ Ok new
Settles (Err e) old new row = (row ≡ Err e) × (new ≡ old)

-- Setting the turn of a client by hand: a client that is committed has nothing pending.
abbrev pub retaken : State → ℕ → ℕ → Bool → State
retaken st i last uncommitted = record st {
  pending = if uncommitted then st.pending else without i st.pending;
  turns = slice_set st.turns (i - 1) (record { last = last; uncommitted = uncommitted });
}
