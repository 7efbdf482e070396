-- The lying server: its state, and what each call makes of it. Each promise of the crate rests on this file; the
-- branches' rows stand in `Branches`, the edits of replies in `Edits`.
use Rattle.std.specs.Prelude.{◌≡◌, ℕ, ◌+◌, ◌-◌, ◌==◌, ◌&&◌, Bool, if◌then◌else◌, List, [], ◌∷◌, ◌++◌, length, Option, Some, None, Result, Ok, Err, IsOk, replicate, slice_get, slice_index_or, slice_set, nat_lt}
use Rattle.faust_types.specs.declared.message.Reply.{Reply}
use Rattle.faust_types.specs.declared.message.Message.{Message}
use Rattle.faust_types.specs.declared.message.Message.TheVariants as messages
use Rattle.faust_wire.specs.Grammar.{spelling}
use Rattle.faust_wire.specs.Reading.{message_of}
use Rattle.faust_server.specs.Rows.{State, first_state}
use Rattle.faust_script.specs.declared.edit.Edit.{Edit}
use Rattle.faust_liar.specs.Branches.{Handled, handled}
use Rattle.faust_liar.specs.Edits.{lied_reply}
use Rattle.faust_liar.specs.declared.session.Session.{Session}
use Rattle.faust_liar.specs.declared.error.LiarError.{LiarError}
use Rattle.faust_liar.specs.declared.error.LiarError.TheVariants as errors

-- What the liar holds: the version of the wire; its branches, numbered from 0, each a state of the honest server; and
-- for each client, from client 1 on, its session. That is the branch by which its messages are handled, the messages
-- that arrived, the replies that were put into its queue, and how many of these were taken out.
pub record LiarState : Type 0 where
  pub wire : ℕ
  pub branches : List State
  pub sessions : List Session

-- The liar at first: branch 0, on which every client is.
abbrev pub first_session : Session
first_session = record { route = 0; arrived = []; replies = []; taken = 0 }

abbrev pub first_lies : ℕ → ℕ → LiarState
first_lies wire n = record { wire = wire; branches = first_state n ∷ []; sessions = replicate n first_session }

-- For how many clients it is.
abbrev pub session_count : LiarState → ℕ
session_count st = length st.sessions

-- The session of client i, and the state with another one.
abbrev pub session_at : LiarState → ℕ → Session
session_at st i = slice_index_or st.sessions (i - 1) first_session

abbrev pub with_session : LiarState → ℕ → Session → LiarState
with_session st i session = record st { sessions = slice_set st.sessions (i - 1) session }

-- A branch, and the state with another one in its place.
abbrev pub is_branch : LiarState → ℕ → Bool
is_branch st b = nat_lt b (length st.branches)

abbrev pub branch_at : LiarState → ℕ → State
branch_at st b = slice_index_or st.branches b (first_state 0)

abbrev pub with_branch : LiarState → ℕ → State → LiarState
with_branch st b branch = record st { branches = slice_set st.branches b branch }

-- The k-th of a list, counted from 1.
abbrev pub nth : ℕ → List Message → Option Message
nth k list = if k == 0 then None else slice_get list (k - 1)

-- arrive: the message is handled by its client's branch, and a reply goes into the client's queue.
abbrev pub queued : Option Reply → List Message
queued None = []
queued (Some reply) = messages.Reply reply ∷ []

abbrev pub received : Session → Message → Option Reply → Session
received session message reply = record session {
  arrived = session.arrived ++ message ∷ [];
  replies = session.replies ++ queued reply;
}

abbrev pub after_handling : LiarState → ℕ → Message → Handled → LiarState
after_handling st i message given =
    with_session (with_branch st (session_at st i).route given.state) i (received (session_at st i) message given.reply)

abbrev pub after_arrival : LiarState → ℕ → Message → LiarState
after_arrival st i message = after_handling st i message (handled (branch_at st (session_at st i).route) i message)

-- The same by the message's bytes.
abbrev pub after_reading : LiarState → ℕ → Option Message → LiarState
after_reading st i None = st
after_reading st i (Some message) = after_arrival st i message

abbrev pub arrived : LiarState → ℕ → List ℕ → LiarState
arrived st i bytes = after_reading st i (message_of st.wire (session_count st) bytes)

-- branch: a branch becomes a copy of another one. Its number is that of the branches so far, of which there are at
-- most 8.
abbrev pub branched : LiarState → ℕ → ℕ → Result LiarState LiarError
branched st from to =
    if is_branch st from && (to == length st.branches) && nat_lt to 8
    then Ok (record st { branches = st.branches ++ branch_at st from ∷ [] })
    else Err errors.NoBranch

-- route: messages of client i that arrive from then on are handled by the branch.
abbrev pub routed : LiarState → ℕ → ℕ → Result LiarState LiarError
routed st i to =
    if is_branch st to
    then Ok (with_session st i (record (session_at st i) { route = to }))
    else Err errors.NoBranch

-- echo: the k-th message of client i that arrived is handled by the branch as well. A reply is thrown away.
abbrev pub echoed_message : LiarState → ℕ → ℕ → Option Message → Result LiarState LiarError
echoed_message st i to None = Err errors.Nothing
echoed_message st i to (Some message) =
    if is_branch st to
    then Ok (with_branch st to (handled (branch_at st to) i message).state)
    else Err errors.NoBranch

abbrev pub echoed : LiarState → ℕ → ℕ → ℕ → Result LiarState LiarError
echoed st i k to = echoed_message st i to (nth k (session_at st i).arrived)

-- What a call hands out: the state after it, and bytes for the client.
pub record Handed : Type 0 where
  pub state : LiarState
  pub bytes : List ℕ

-- The next reply in client i's queue, and the state with it taken out.
abbrev pub next_of : Session → Option Message
next_of session = slice_get session.replies session.taken

abbrev pub one_taken : LiarState → ℕ → LiarState
one_taken st i = with_session st i (record (session_at st i) { taken = (session_at st i).taken + 1 })

-- next: the next reply is taken out of the queue and handed out.
abbrev pub handed_next : LiarState → ℕ → Option Message → Result Handed LiarError
handed_next st i None = Err errors.Nothing
handed_next st i (Some reply) = Ok (record { state = one_taken st i; bytes = spelling st.wire reply })

abbrev pub next_due : LiarState → ℕ → Result Handed LiarError
next_due st i = handed_next st i (next_of (session_at st i))

-- again: the k-th reply that was put into the queue is handed out; the queue stays.
abbrev pub handed_again : LiarState → Option Message → Result Handed LiarError
handed_again st None = Err errors.Nothing
handed_again st (Some reply) = Ok (record { state = st; bytes = spelling st.wire reply })

abbrev pub again_due : LiarState → ℕ → ℕ → Result Handed LiarError
again_due st i k = handed_again st (nth k (session_at st i).replies)

-- edit and forge: the next reply is taken out of the queue, and handed out as the edit makes it. An absent reply is
-- looked at before the edit.
abbrev pub lied : Option (List ℕ) → Edit → Message → Option Reply
lied key edit (messages.Submit m) = None
lied key edit (messages.Reply m) = lied_reply key edit m
lied key edit (messages.Commit m) = None
lied key edit (messages.Peer m) = None
lied key edit (messages.Hello client) = None

abbrev pub handed_lie : LiarState → ℕ → Option Reply → Result Handed LiarError
handed_lie st i None = Err errors.Field
handed_lie st i (Some reply) = Ok (record { state = one_taken st i; bytes = spelling st.wire (messages.Reply reply) })

abbrev pub edited_next : LiarState → ℕ → Edit → Option (List ℕ) → Option Message → Result Handed LiarError
edited_next st i edit key None = Err errors.Nothing
edited_next st i edit key (Some message) = handed_lie st i (lied key edit message)

abbrev pub edited_due : LiarState → ℕ → Edit → Option (List ℕ) → Result Handed LiarError
edited_due st i edit key = edited_next st i edit key (next_of (session_at st i))

-- An answer is what is due: done, in the state due; or the refusal due, in the state as before. Want of memory comes
-- only where no other refusal is due, and leaves the state as before too.
abbrev pub Refuses : {Due : Type 0} → LiarError → LiarState → LiarState → Result Due LiarError → Type 0
Refuses errors.Nothing old new due = (due ≡ Err errors.Nothing) × (new ≡ old)
Refuses errors.NoBranch old new due = (due ≡ Err errors.NoBranch) × (new ≡ old)
Refuses errors.Field old new due = (due ≡ Err errors.Field) × (new ≡ old)
Refuses errors.OutOfMemory old new due = IsOk due × (new ≡ old)

abbrev pub Does : {Done : Type 0} → Result Done LiarError → LiarState → LiarState → Result LiarState LiarError → Type 0
Does (Ok done) old new due = due ≡ Ok new
Does (Err e) old new due = Refuses e old new due

abbrev pub Hands : Result (List ℕ) LiarError → LiarState → LiarState → Result Handed LiarError → Type 0
Hands (Ok bytes) old new due = due ≡ Ok (record { state = new; bytes = bytes })
Hands (Err e) old new due = Refuses e old new due
